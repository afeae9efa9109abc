-- A file that is written anew: its folder, and what may lie in its place.
use Rattle.std.specs.Prelude.{ℕ, Bool, true, false, ◌==◌, ◌+◌, Option, Some, None, List, [], ◌∷◌, take, codes, if◌then◌else◌}
use Rattle.std.specs.Option.{option_map_or}
use Rattle.stickd_ctl.specs.declared.replacing.Lying.{Lying}
use Rattle.stickd_ctl.specs.declared.replacing.Lying.TheVariants.{Nothing, File, Link, Folder, Other}

-- the place of the last slash, from this place on
abbrev pub slash_from : ℕ → Option ℕ → List ℕ → Option ℕ
slash_from place last [] = last
slash_from place last (byte ∷ bytes) = slash_from (place + 1) (if byte == 47 then Some place else last) bytes

abbrev pub last_slash : List ℕ → Option ℕ
last_slash path = slash_from 0 None path

-- the folder up to a slash: one at the head is the root
abbrev pub folder_before : List ℕ → ℕ → List ℕ
folder_before path place = if place == 0 then codes "/" else take place path

-- the folder that a path lies in: the current one, where it has no slash
abbrev pub folder_of : List ℕ → List ℕ
folder_of path = option_map_or (folder_before path) (last_slash path) (codes ".")

-- what a file may take the place of: a link itself, and never what it leads to
abbrev pub may_replace : Lying → Bool
may_replace Nothing = true
may_replace File = true
may_replace Link = true
may_replace Folder = false
may_replace Other = false
