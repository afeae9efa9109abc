-- The names of sections, servers and ACLs.
use Rattle.std.specs.Prelude.{ℕ, Bool, ◌||◌, ◌&&◌, ◌==◌, List}
use Rattle.std.specs.List.{list_all}
use Rattle.std.specs.Char.{is_ascii_alphanumeric}
use Rattle.base_lines.specs.Words.{is_some_text}

-- a letter, a digit or one of - _ . :
abbrev pub is_name_byte : ℕ → Bool
is_name_byte b = is_ascii_alphanumeric b || (b == 45) || (b == 95) || (b == 46) || (b == 58)

abbrev pub is_name : List ℕ → Bool
is_name word = is_some_text word && list_all is_name_byte word
