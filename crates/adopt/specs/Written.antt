-- What is written of each line.
use Rattle.std.specs.Prelude.{ℕ, ◌++◌, nat_lt, List, [], ◌∷◌, map, codes, if◌then◌else◌}
use Rattle.std.specs.List.{flat_map}
use Rattle.std.specs.Str.{is_utf8}
use Rattle.std.specs.declared.vec.Vec.{Vec}
use Rattle.std.specs.declared.alloc.Global.{Global}
use Rattle.adopt.specs.declared.written.Adopted.{Adopted}
use Rattle.adopt.specs.declared.fates.FateKind.{FateKind}
use Rattle.adopt.specs.declared.fates.FateKind.TheVariants.{Kept, Rewritten, Moved, Carried, Harmless, Altered, Lost}

-- a byte of ASCII, or a question mark
abbrev pub ascii : ℕ → ℕ
ascii byte = if nat_lt byte 128 then byte else 63

-- a text that is UTF-8: itself, or with question marks for what is no ASCII
abbrev pub readable : List ℕ → List ℕ
readable text = if is_utf8 text then text else map ascii text

-- a text as a line
abbrev pub line_of : List ℕ → List ℕ
line_of text = readable text ++ 10 ∷ []

-- a line that is left out, as a comment with the reason
abbrev pub comment_of : List ℕ → List ℕ → List ℕ
comment_of raw reason = line_of (codes "#- " ++ raw ++ codes "  # " ++ reason)

-- what stands in a line's place
abbrev pub in_place : FateKind → List ℕ → List ℕ → List ℕ → List ℕ
in_place Kept raw note text = line_of raw
in_place Rewritten raw note text = line_of text
in_place Moved raw note text = comment_of raw note
in_place Carried raw note text = comment_of raw note
in_place Harmless raw note text = comment_of raw note
in_place Altered raw note text = line_of text
in_place Lost raw note text = comment_of raw note

-- the lines that are added behind a line
abbrev pub added_lines : List (Vec ℕ Global) → List ℕ
added_lines lines = flat_map (λ line. line_of line.items) lines

-- what stands in a line's place, and the lines that are added behind it
abbrev pub piece_of : Adopted → List ℕ
piece_of line = in_place line.fate.kind line.raw.items line.fate.note.items line.fate.text.items ++ added_lines line.fate.after.items

-- line by line, in the order of the file
abbrev pub composed : List Adopted → List ℕ
composed lines = flat_map piece_of lines

-- the lines of the file, as they stood
abbrev pub raws_of : List Adopted → List (List ℕ)
raws_of lines = map (λ line. line.raw.items) lines
