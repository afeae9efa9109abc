-- The lines of a file.
use Rattle.std.specs.Prelude.{ℕ, Bool, ◌==◌, ◌&&◌, List, [], ◌∷◌, length, map, if◌then◌else◌}
use Rattle.std.specs.declared.vec.Vec.{Vec}
use Rattle.std.specs.declared.alloc.Global.{Global}
use Rattle.base_lines.specs.Line.{without_cr}
use Rattle.base_lines.specs.Parts.{parts, is_byte}
use Rattle.adopt.specs.declared.lexer.SourceLine.{SourceLine}

-- whether a part is an empty one behind the last line end
abbrev pub is_end : List ℕ → List (List ℕ) → Bool
is_end part parts = (length part == 0) && (length parts == 0)

-- the parts but for an empty one at the end
abbrev pub without_end : List (List ℕ) → List (List ℕ)
without_end [] = []
without_end (part ∷ parts) = if is_end part parts then [] else part ∷ without_end parts

-- lines without the carriage return that may stand before a line end
abbrev pub bare_lines : List (List ℕ) → List (List ℕ)
bare_lines parts = map without_cr (without_end parts)

-- the lines of a text, without their ends
abbrev pub own_lines : List ℕ → List (List ℕ)
own_lines text = bare_lines (parts (is_byte 10) text)

-- the texts of a list of them
abbrev pub texts_of : List (Vec ℕ Global) → List (List ℕ)
texts_of texts = map (λ text. text.items) texts

-- the lines as they stood
abbrev pub own_raws : List SourceLine → List (List ℕ)
own_raws lines = map (λ line. line.raw.items) lines
