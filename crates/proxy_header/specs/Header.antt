-- Headers of the PROXY protocol: what the first bytes of a connection say.
use Rattle.std.specs.Prelude.{ℕ, ◌<◌, ◌≤◌, Bool, ◌||◌, nat_eq, List, codes, if◌then◌else◌}
use Rattle.std.specs.List.{starts_with}
use Rattle.proxy_header.specs.declared.ends.Heard.{Heard}
use Rattle.proxy_header.specs.declared.ends.Heard.TheVariants.{Unfinished, Wrong, Told}
use Rattle.proxy_header.specs.Binary.{signature, heard_binary}
use Rattle.proxy_header.specs.Line.{heard_line}

-- how a header of version 1 begins
abbrev pub proxy : List ℕ
proxy = codes "PROXY "

-- whether more bytes may make the beginning of a header of these
abbrev pub is_beginning : List ℕ → Bool
is_beginning bytes = starts_with nat_eq signature bytes || starts_with nat_eq proxy bytes

-- what the first bytes of a connection say
unfoldable pub heard : List ℕ → Heard
heard bytes =
    if starts_with nat_eq bytes signature then heard_binary bytes
    else if starts_with nat_eq bytes proxy then heard_line bytes
    else if is_beginning bytes then Unfinished
    else Wrong

-- how long what is said of so many bytes may take: what is unfinished is below 4,096 bytes, and a header that is told has no more, and is there
abbrev pub HasRoom : ℕ → Heard → Type 0
HasRoom count Unfinished = count < 4096
HasRoom count Wrong = Unit {0}
HasRoom count (Told whole ends) = (whole ≤ count) × (whole ≤ 4096)
