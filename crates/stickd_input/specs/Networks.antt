-- Lists of networks.
use Rattle.std.specs.Prelude.{◌≡◌, ◌<◌, ℕ, List, None, length}
use Rattle.base_lines.specs.Parts.{parts, is_byte}
use Rattle.rule_addresses.specs.Addresses.{network_of}
use Rattle.stickd_input.specs.declared.networks.NetworksFault.{NetworksFault}
use Rattle.stickd_input.specs.declared.networks.NetworksFault.TheVariants.{Wrong, Many, NoMemory}

-- what stands between commas
abbrev pub listed : List ℕ → List (List ℕ)
listed list = parts (is_byte 44) list

-- a fault is told of a part that is no network, or of a list that has more than 64
abbrev pub IsFault : List ℕ → NetworksFault → Type 0
IsFault list (Wrong part) = network_of part.now ≡ None
IsFault list Many = 64 < length (listed list)
IsFault list NoMemory = Unit {0}
