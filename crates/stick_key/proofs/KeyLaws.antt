-- What keys are read from, and printed as.
use Rattle.std.proofs.Common.{◌≡◌, ℕ, ◌==◌, ◌∙◌, List, length, refl, sym, ap, Bool, true, false, Some, None}
use Rattle.std.proofs.lemmas.Bool.{eq-eqb}
use Rattle.std.specs.Prelude.{if◌then◌else◌}
use Rattle.std.specs.Fmt.{decimal}
use Rattle.std.proofs.lemmas.Option.{none-some, same_Some}
use Rattle.std.specs.Int.{from_be_bytes, to_be_bytes, w32}
use Rattle.stick_key.specs.Dotted.{dotted}
use Rattle.stick_key.specs.Ipv6Printed.{ipv6}
use Rattle.stick_key.specs.KeyText.{PrintedReadsBack, ReadsOneKey, escaped}
use Rattle.stick_key.specs.declared.kind.KeyType.TheVariants.{Ip, Ipv6, Integer, Text, Binary}
use Rattle.stick_key.specs.Convert.{BytesFit, converted}
use Rattle.stick_key.specs.Hexadecimal.{fitted, hexadecimal, spelled}
use Rattle.stick_key.specs.declared.sample.Sample.{Sample}
use Rattle.stick_key.specs.declared.sample.Sample.TheVariants.{V4, V6, Number, Text as Bytes}
use Rattle.stick_key.proofs.HexadecimalLemmas.{binary_reads, length-fitted}
use Rattle.stick_key.proofs.Ipv6Reread.{ipv6_reads}
use Rattle.stick_key.proofs.Ipv6Sides.{ipv6_unique}
use Rattle.stick_key.proofs.Printed.{dotted_reads, integer_reads, text_reads}

pub reads_one : ReadsOneKey
reads_one Ip spelled key other first second = first.2 ∙ sym second.2
reads_one Ipv6 spelled key other first second = ipv6_unique spelled key other first second
reads_one Integer spelled key other first second = first.2 ∙ sym second.2
reads_one (Text n) spelled key other first second = first.1 ∙ sym second.1
reads_one (Binary n) spelled key other first second = first.1 ∙ sym second.1

four_long : (key x y : List ℕ) → length key ≡ 4 → (if length key == 4 then x else y) ≡ x
four_long key x y four = rw four refl

sixteen_long : (key x y : List ℕ) → length key ≡ 16 → (if length key == 16 then x else y) ≡ x
sixteen_long key x y sixteen = rw sixteen refl

as_long : (key x y : List ℕ) (n : ℕ) → length key ≡ n → (if length key == n then x else y) ≡ x
as_long key x y n long = rw (eq-eqb (length key) n long) refl

pub printed_law : PrintedReadsBack
printed_law Ip key bytes fits plain = rw (four_long key (dotted key) (escaped key) fits) (dotted_reads key bytes fits)
printed_law Integer key bytes fits plain = rw (four_long key (decimal (from_be_bytes w32 key)) (escaped key) fits) (integer_reads key bytes fits)
printed_law (Text n) key bytes fits plain = text_reads n key plain fits.0 fits.1
printed_law (Binary n) key bytes fits some = rw (as_long key (hexadecimal key) (escaped key) n fits) (binary_reads n key bytes some fits)
printed_law Ipv6 key bytes fits plain = rw (sixteen_long key (ipv6 key) (escaped key) fits) (ipv6_reads key bytes fits)

-- the bytes of a sample that has some
given : (test : Bool) (n : ℕ) (bytes key : List ℕ) → (if test then None else Some (fitted n bytes)) ≡ Some key → length key ≡ n
given true n bytes key gives = absurd (none-some key gives)
given false n bytes key gives = rw (← same_Some (fitted n bytes) key gives) (length-fitted n bytes)

converted_fit : (n : ℕ) (key : List ℕ) (sample : Sample) → converted sample (Binary n) ≡ Some key → length key ≡ n
converted_fit n key (V4 address) gives = given false n address key gives
converted_fit n key (V6 address) gives = given false n address key gives
converted_fit n key (Number number) gives = given false n (to_be_bytes w32 number) key gives
converted_fit n key (Bytes text) gives = given (length text == 0) n text key gives

pub bytes_fit : BytesFit
bytes_fit n key = (λ spelling reads. ap length reads.1 ∙ length-fitted n (spelled spelling), λ sample gives. converted_fit n key sample gives)
