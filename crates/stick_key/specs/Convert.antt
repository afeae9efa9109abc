-- The key that a sample gives.
use Rattle.std.specs.Prelude.{◌≡◌, Bool, true, false, ℕ, ◌==◌, List, ◌++◌, nat_lt, length, take, drop, Option, Some, None, if◌then◌else◌}
use Rattle.std.specs.Int.{to_be_bytes, w32}
use Rattle.std.specs.Fmt.{decimal}
use Rattle.stick_key.specs.Dotted.{dotted}
use Rattle.stick_key.specs.Hexadecimal.{fitted}
use Rattle.stick_key.specs.KeyText.{Fits, Reads}
use Rattle.stick_key.specs.Ipv6Printed.{mapped_prefix, is_mapped, ipv6}
use Rattle.stick_key.specs.declared.kind.KeyType.{KeyType}
use Rattle.stick_key.specs.declared.kind.KeyType.TheVariants.{Ip, Ipv6, Integer, Text, Binary}
use Rattle.stick_key.specs.declared.sample.Sample.{Sample}
use Rattle.stick_key.specs.declared.sample.Sample.TheVariants.{V4, V6, Number, Text as Bytes}

-- the table of conversions
abbrev pub converted : Sample → KeyType → Option (List ℕ)
converted (V4 address) Ip = Some address
converted (V4 address) Ipv6 = Some (mapped_prefix ++ address)
converted (V4 address) Integer = None
converted (V4 address) (Text n) = Some (take n (dotted address))
converted (V4 address) (Binary n) = Some (fitted n address)
converted (V6 address) Ip = if is_mapped address then Some (drop 12 address) else None
converted (V6 address) Ipv6 = Some address
converted (V6 address) Integer = None
converted (V6 address) (Text n) = Some (take n (ipv6 address))
converted (V6 address) (Binary n) = Some (fitted n address)
converted (Number number) Ip = None
converted (Number number) Ipv6 = None
converted (Number number) Integer = Some (to_be_bytes w32 number)
converted (Number number) (Text n) = Some (take n (decimal number))
converted (Number number) (Binary n) = Some (fitted n (to_be_bytes w32 number))
converted (Bytes text) Ip = None
converted (Bytes text) Ipv6 = None
converted (Bytes text) Integer = None
converted (Bytes text) (Text n) = if length text == 0 then None else Some (take n text)
converted (Bytes text) (Binary n) = if length text == 0 then None else Some (fitted n text)

-- a conversion to this kind may take memory
abbrev pub takes_memory : KeyType → Bool
takes_memory Ip = false
takes_memory Ipv6 = false
takes_memory Integer = false
takes_memory (Text n) = true
takes_memory (Binary n) = nat_lt 16 n

-- a key of so many bytes has exactly so many, whether a text spells it or a sample gives it
abbrev pub BytesFit : Type 0
BytesFit = (n : ℕ) (key : List ℕ) →
    ((spelling : List ℕ) → Reads (Binary n) spelling key → Fits (Binary n) key) × ((sample : Sample) → converted sample (Binary n) ≡ Some key → Fits (Binary n) key)
