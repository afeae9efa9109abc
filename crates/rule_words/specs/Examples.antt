-- Worked examples of sizes, times and tables, which the checker computes.
use Rattle.std.specs.Prelude.{refl, ◌≡◌, false, [], ◌∷◌, codes, Some, None, Ok, Err}
use Rattle.base_lines.specs.Number.{number_of}
use Rattle.stored_data.specs.Names.{datum_of}
use Rattle.stored_data.specs.declared.datum.Datum.TheVariants.{ConnCur, ConnRate, Gpc0Rate, Gpt, Gpc}
use Rattle.stick_key.specs.declared.kind.KeyType.TheVariants.{Ip, Binary}
use Rattle.rule_model.specs.declared.faults.Fault.TheVariants.{BadNumber, BadSize, UnknownKeyword, UnknownType}
use Rattle.rule_words.specs.Lines.{words_of}
use Rattle.rule_words.specs.Numbers.{size_of, size_unit, time_of, time_unit}
use Rattle.rule_words.specs.Table.{kind_of, table_of, with_item, with_setting}

size-kilobytes : size_of (codes "100k") ≡ Ok 102400
unfolding size_of size_unit number_of
size-kilobytes = refl

size-greatest : size_of (codes "1g") ≡ Ok 1073741824
unfolding size_of size_unit number_of
size-greatest = refl

size-too_large : size_of (codes "2g") ≡ Err BadSize
unfolding size_of size_unit number_of
size-too_large = refl

size-none : size_of (codes "0") ≡ Err BadSize
unfolding size_of size_unit number_of
size-none = refl

time-rounded_up : time_of (codes "1500us") ≡ Ok 2
unfolding time_of time_unit number_of
time-rounded_up = refl

time-longest_days : time_of (codes "24d") ≡ Ok 2073600000
unfolding time_of time_unit number_of
time-longest_days = refl

time-too_long : time_of (codes "25d") ≡ Err BadNumber
unfolding time_of time_unit number_of
time-too_long = refl

table-limit : table_of (words_of (codes "type ip size 100k expire 10m store conn_cur"))
    ≡ Ok (record { kind = Ip; size = 102400; expire = Some 600000; nopurge = false; columns = record { datum = ConnCur; period = 0; count = 0 } ∷ [] })
unfolding table_of with_setting kind_of size_of size_unit time_of time_unit number_of with_item datum_of
table-limit = refl

table-rate : table_of (words_of (codes "size 10 type ip store conn_rate(10s)"))
    ≡ Ok (record { kind = Ip; size = 10; expire = None; nopurge = false; columns = record { datum = ConnRate; period = 10000; count = 0 } ∷ [] })
unfolding table_of with_setting kind_of size_of size_unit time_of time_unit number_of with_item datum_of
table-rate = refl

table-rate_without_period : table_of (words_of (codes "type ip size 10 store conn_rate")) ≡ Err UnknownType
unfolding table_of with_setting kind_of size_of size_unit time_of time_unit number_of with_item datum_of
table-rate_without_period = refl

table-without_size : table_of (words_of (codes "type ip store conn_cur")) ≡ Err BadSize
unfolding table_of with_setting kind_of size_of size_unit time_of time_unit number_of with_item datum_of
table-without_size = refl

table-binary : table_of (words_of (codes "type binary len 4 size 10"))
    ≡ Ok (record { kind = Binary 4; size = 10; expire = None; nopurge = false; columns = [] })
unfolding table_of with_setting kind_of size_of size_unit number_of
table-binary = refl

table-binary_of_32_bytes : table_of (words_of (codes "type binary size 10"))
    ≡ Ok (record { kind = Binary 32; size = 10; expire = None; nopurge = false; columns = [] })
unfolding table_of with_setting kind_of size_of size_unit number_of
table-binary_of_32_bytes = refl

table-binary_too_long : table_of (words_of (codes "type binary len 1025 size 10")) ≡ Err BadNumber
unfolding table_of with_setting kind_of size_of size_unit number_of
table-binary_too_long = refl

table-length_behind_size : table_of (words_of (codes "type binary size 10 len 4")) ≡ Err UnknownKeyword
unfolding table_of with_setting kind_of size_of size_unit number_of
table-length_behind_size = refl

table-arrays : table_of (words_of (codes "type ip size 10 store gpc(2),gpt(1)"))
    ≡ Ok (record {
      kind = Ip;
      size = 10;
      expire = None;
      nopurge = false;
      columns = record { datum = Gpt; period = 0; count = 1 } ∷ record { datum = Gpc; period = 0; count = 2 } ∷ [];
    })
unfolding table_of with_setting kind_of size_of size_unit number_of with_item datum_of
table-arrays = refl

table-array_without_count : table_of (words_of (codes "type ip size 10 store gpc")) ≡ Err UnknownType
unfolding table_of with_setting kind_of size_of size_unit number_of with_item datum_of
table-array_without_count = refl

table-array_of_101 : table_of (words_of (codes "type ip size 10 store gpc(101)")) ≡ Err BadNumber
unfolding table_of with_setting kind_of size_of size_unit number_of with_item datum_of
table-array_of_101 = refl

table-excluded_by_an_array : table_of (words_of (codes "type ip size 10 store gpc(2),gpc1")) ≡ Err UnknownType
unfolding table_of with_setting kind_of size_of size_unit number_of with_item datum_of
table-excluded_by_an_array = refl

table-array_excluded_before_its_count : table_of (words_of (codes "type ip size 10 store gpt0,gpt(0)")) ≡ Err UnknownType
unfolding table_of with_setting kind_of size_of size_unit number_of with_item datum_of
table-array_excluded_before_its_count = refl

table-array_beside_a_rate : table_of (words_of (codes "type ip size 10 store gpc(1),gpc0_rate(10s)"))
    ≡ Ok (record {
      kind = Ip;
      size = 10;
      expire = None;
      nopurge = false;
      columns = record { datum = Gpc0Rate; period = 10000; count = 0 } ∷ record { datum = Gpc; period = 0; count = 1 } ∷ [];
    })
unfolding table_of with_setting kind_of size_of size_unit time_of time_unit number_of with_item datum_of
table-array_beside_a_rate = refl
