-- What a line stick-table declares is within its limits.
use Rattle.std.proofs.Common.{◌≡◌, ◌≤◌, ◌<◌, ◌^◌, ℕ, Bool, true, false, not, cond, Option, Some, None, Result, Ok, Err, List, [], ◌∷◌, IfOk, IfSome, refl, subst, lit≤}
use Rattle.std.specs.Prelude.{codes, option_map}
use Rattle.std.specs.Str.{bytes_eq}
use Rattle.stick_key.specs.declared.kind.KeyType.{KeyType}
use Rattle.stick_key.specs.declared.kind.KeyType.TheVariants.{Ip, Ipv6, Integer, Text, Binary}
use Rattle.stick_model.specs.Limits.{IsKeyType}
use Rattle.base_lines.specs.Number.{number_of}
use Rattle.base_lines.specs.Parts.{parts, is_byte}
use Rattle.rule_model.specs.Reading.{◌>>=◌, demand}
use Rattle.rule_model.specs.Served.{IsTable}
use Rattle.rule_model.specs.declared.faults.Fault.{Fault}
use Rattle.rule_model.specs.declared.faults.Fault.TheVariants.{UnknownKeyword, BadNumber, BadSize, UnknownType}
use Rattle.rule_words.specs.Numbers.{bounded_number, digits_of, size_of, size_unit, suffix_of, time_of, times}
use Rattle.rule_words.specs.Table.{complete, found, kind_of, no_settings, once, pairs_of, table_of, with_items, with_length, with_setting, with_settings}
use Rattle.rule_words.specs.declared.table.Settings.{Settings}
use Rattle.rule_words.proofs.NumberLemmas.{time_of-bounds, within-bounds}

-- what holds of all that a first step leads to
pub ok_bind : {A B E : Type 0} (P : B → Type 0) (first : Result A E) (next : A → Result B E) → ((a : A) → first ≡ Ok a → IfOk (next a) P) → IfOk (first >>= next) P
ok_bind P (Ok a) next h = h a refl
ok_bind P (Err e) next h = tt

pub ok_if : {B E : Type 0} (P : B → Type 0) (test : Bool) (one other : Result B E) → IfOk one P → IfOk other P → IfOk (cond test one other) P
ok_if P true one other h k = h
ok_if P false one other h k = k

-- what is set so far is within its limits
record AreSet (settings : Settings) : Type 0 where
  kind : IfSome settings.kind IsKeyType
  size : IfSome settings.size (λ n. (1 ≤ n) × (n ≤ 2 ^ 30))
  expire : IfSome settings.expire (λ n. (1 ≤ n) × (n < 2 ^ 31))

are_set : (settings : Settings) → IfSome settings.kind IsKeyType → IfSome settings.size (λ n. (1 ≤ n) × (n ≤ 2 ^ 30)) → IfSome settings.expire (λ n. (1 ≤ n) × (n < 2 ^ 31)) → AreSet settings
are_set settings k s e = record { kind = k; size = s; expire = e }

size_of-bounds : (text : List ℕ) (size : ℕ) → size_of text ≡ Ok size → (1 ≤ size) × (size ≤ 2 ^ 30)
unfolding size_of
size_of-bounds text size e = within-bounds 1 (2 ^ 30) BadSize (times (number_of (digits_of text)) (size_unit (suffix_of text))) size e

-- a kind of key that is read
kind_of-IsKeyType : (word : List ℕ) → IfSome (kind_of word) IsKeyType
unfolding kind_of
kind_of-IsKeyType word =
    some_if (bytes_eq word (codes "ip")) _ _ tt (some_if (bytes_eq word (codes "ipv6")) _ _ tt
    (some_if (bytes_eq word (codes "integer")) _ _ tt (some_if (bytes_eq word (codes "string")) _ _ (lit≤ tt, lit≤ tt)
    (some_if (bytes_eq word (codes "binary")) _ _ (lit≤ tt, lit≤ tt) tt))))
  where
    some_if : (test : Bool) (one other : Option KeyType) → IfSome one IsKeyType → IfSome other IsKeyType → IfSome (cond test one other) IsKeyType
    some_if true one other h k = h
    some_if false one other h k = k

with_length-IsKeyType : (length : ℕ) (kind : Option KeyType) → (1 ≤ length) × (length ≤ 1024) → IfSome (option_map (with_length length) kind) IsKeyType
with_length-IsKeyType length None bounds = tt
with_length-IsKeyType length (Some Ip) bounds = tt
with_length-IsKeyType length (Some Ipv6) bounds = tt
with_length-IsKeyType length (Some Integer) bounds = tt
with_length-IsKeyType length (Some (Text n)) bounds = bounds
with_length-IsKeyType length (Some (Binary n)) bounds = bounds

found-is : {A : Type 0} (set : Option A) (fault : Fault) (a : A) → found set fault ≡ Ok a → set ≡ Some a
found-is (Some b) fault a e = cc
found-is None fault a e = cc

if_found : {A : Type 0} (P : A → Type 0) (set : Option A) (fault : Fault) (a : A) → IfSome set P → found set fault ≡ Ok a → P a
if_found P (Some b) fault a h e = let same : b ≡ a = cc in subst P same h
if_found P None fault a h e = cc

with_setting-AreSet : (old : Settings) (word value : List ℕ) → AreSet old → IfOk (with_setting old word value) AreSet
unfolding with_setting
with_setting-AreSet old word value h =
    ok_if AreSet (bytes_eq word (codes "type")) _ _
    (ok_bind AreSet (once old.kind) _ (λ _ _. ok_bind AreSet (found (kind_of value) UnknownType) _ (λ kind e.
    are_set _ (if_found IsKeyType (kind_of value) UnknownType kind (kind_of-IsKeyType value) e) h.size h.expire)))
    (ok_if AreSet (bytes_eq word (codes "len")) _ _
    (ok_bind AreSet (demand old.takes_length UnknownKeyword) _ (λ _ _. ok_bind AreSet (bounded_number 1 1024 value) _ (λ length e.
    are_set _ (with_length-IsKeyType length old.kind (within-bounds 1 1024 BadNumber (number_of value) length e)) h.size h.expire)))
    (ok_if AreSet (bytes_eq word (codes "size")) _ _
    (ok_bind AreSet (once old.size) _ (λ _ _. ok_bind AreSet (size_of value) _ (λ size e. are_set _ h.kind (size_of-bounds value size e) h.expire)))
    (ok_if AreSet (bytes_eq word (codes "expire")) _ _
    (ok_bind AreSet (once old.expire) _ (λ _ _. ok_bind AreSet (time_of value) _ (λ time e. are_set _ h.kind h.size (time_of-bounds value time e))))
    (ok_if AreSet (bytes_eq word (codes "nopurge")) _ _
    (ok_bind AreSet (demand (not old.nopurge) UnknownKeyword) _ (λ _ _. are_set _ h.kind h.size h.expire))
    (ok_if AreSet (bytes_eq word (codes "store")) _ _
    (ok_bind AreSet (with_items old.columns (parts (is_byte 44) value)) _ (λ columns _. are_set _ h.kind h.size h.expire))
    tt)))))

with_settings-AreSet : (settings : Settings) (pairs : List (List ℕ × List ℕ)) → AreSet settings → IfOk (with_settings settings pairs) AreSet
with_settings-AreSet settings [] h = h
with_settings-AreSet settings ((word, value) ∷ pairs) h =
    ok_bind AreSet (with_setting settings word value) (λ next. with_settings next pairs)
    (λ next e. with_settings-AreSet next pairs (subst (λ r. IfOk r AreSet) e (with_setting-AreSet settings word value h)))

complete-IsTable : (settings : Settings) → AreSet settings → IfOk (complete settings) IsTable
complete-IsTable settings h = by_parts settings.kind settings.size h.kind h.size
  where
    by_parts : (kind : Option KeyType) (size : Option ℕ) → IfSome kind IsKeyType → IfSome size (λ n. (1 ≤ n) × (n ≤ 2 ^ 30))
        → IfOk (found kind UnknownType >>= (λ kind. found size BadSize >>= (λ size. Ok (record { kind = kind; size = size; expire = settings.expire; nopurge = settings.nopurge; columns = settings.columns })))) IsTable
    by_parts None size k s = tt
    by_parts (Some kind) None k s = tt
    by_parts (Some kind) (Some size) k s = record { kind = k; size = s; expire = h.expire }

-- a table that a line declares is within its limits
pub table_of-IsTable : (words : List (List ℕ)) → IfOk (table_of words) IsTable
unfolding table_of
table_of-IsTable words =
    ok_bind IsTable (with_settings no_settings (pairs_of words)) complete
    (λ settings e. complete-IsTable settings
    (subst (λ r. IfOk r AreSet) e (with_settings-AreSet no_settings (pairs_of words) (record { kind = tt; size = tt; expire = tt }))))
