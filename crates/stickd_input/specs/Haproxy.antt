-- Which command lines take a file of HAProxy.
use Rattle.std.specs.Prelude.{Bool, true, false, List, [], ◌∷◌, String, string_bytes, codes, if◌then◌else◌}
use Rattle.std.specs.Str.{bytes_eq}
use Rattle.std.specs.declared.alloc.Global.{Global}

-- whether a word is --haproxy, of those before a word --, which no option follows
abbrev pub names_haproxy : List (String Global) → Bool
names_haproxy [] = false
names_haproxy (word ∷ words) =
    if bytes_eq (string_bytes word) (codes "--") then false
    else (if bytes_eq (string_bytes word) (codes "--haproxy") then true
    else names_haproxy words)
