-- Of which lines a report says something.
use Rattle.std.specs.Prelude.{ℕ, Bool, true, false, ◌==◌, ◌&&◌, ◌||◌, List, [], ◌∷◌, if◌then◌else◌}
use Rattle.adopt.specs.declared.written.Adopted.{Adopted}
use Rattle.adopt.specs.declared.fates.FateKind.{FateKind}
use Rattle.adopt.specs.declared.fates.FateKind.TheVariants.{Kept, Rewritten, Moved, Carried, Harmless, Altered, Lost}

-- whether a line is more than blanks and a comment
abbrev pub has_words : List ℕ → Bool
has_words [] = false
has_words (byte ∷ bytes) = if byte == 35 then false else (if (byte == 32) || (byte == 9) then has_words bytes else true)

-- whether something is said of a line with this fate
abbrev pub tells : FateKind → List ℕ → Bool
tells Kept raw = has_words raw
tells Rewritten raw = true
tells Moved raw = true
tells Carried raw = true
tells Harmless raw = true
tells Altered raw = true
tells Lost raw = true

abbrev pub is_told : Adopted → Bool
is_told line = tells line.fate.kind line.raw.items

-- whether two fates are of one kind
abbrev pub same_kind : FateKind → FateKind → Bool
same_kind Kept Kept = true
same_kind Rewritten Rewritten = true
same_kind Moved Moved = true
same_kind Carried Carried = true
same_kind Harmless Harmless = true
same_kind Altered Altered = true
same_kind Lost Lost = true
same_kind _ _ = false

-- whether a fate of this kind is said of a line
abbrev pub is_of : FateKind → Adopted → Bool
is_of kind line = same_kind line.fate.kind kind && is_told line
