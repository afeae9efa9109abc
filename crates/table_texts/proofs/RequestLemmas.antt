-- On pairs that are read.
use Rattle.std.proofs.Common.{◌≡◌, ℕ, Result, Ok, Err, List, [], ◌∷◌, ◌++◌, append_assoc, refl, sym, ap, ◌∙◌, unwrap_or}
use Rattle.base_lines.specs.Number.{number_of}
use Rattle.table_texts.specs.FieldNames.{field_of}
use Rattle.table_texts.specs.Form.{datum_name}
use Rattle.stick_model.specs.declared.rows.Cell.{Cell}
use Rattle.table_texts.specs.Request.{cell_of, cells_of, with_cell}
use Rattle.table_texts.specs.declared.message.Message.{Message}

-- what was read, with these in front
abbrev pub behind : List Cell → Result (List Cell) Message → Result (List Cell) Message
behind prefix (Ok cells) = Ok (prefix ++ cells)
behind prefix (Err message) = Err message

pub behind-none : (read : Result (List Cell) Message) → behind [] read ≡ read
behind-none (Ok cells) = refl
behind-none (Err message) = refl

pub behind-more : (prefix : List Cell) (cell : Cell) (read : Result (List Cell) Message) → behind prefix (with_cell (Ok cell) read) ≡ behind (prefix ++ cell ∷ []) read
behind-more prefix cell (Ok cells) = ap Ok (sym (append_assoc prefix (cell ∷ []) cells))
behind-more prefix cell (Err message) = refl

-- a pair more was read
pub one_more : (prefix new : List Cell) (cell : Cell) (word value : List ℕ) (left mid rest : List (List ℕ)) → left ≡ word ∷ mid → mid ≡ value ∷ rest
    → Ok cell ≡ cell_of (field_of (unwrap_or (datum_name word) [])) (number_of value) → new ≡ prefix ++ cell ∷ [] → behind new (cells_of rest) ≡ behind prefix (cells_of left)
one_more prefix new cell word value left mid rest first second is more =
    ap (λ cells. behind cells (cells_of rest)) more
    ∙ sym (behind-more prefix cell (cells_of rest))
    ∙ ap (λ read. behind prefix (with_cell read (cells_of rest))) is
    ∙ ap (λ ws. behind prefix (cells_of ws)) (sym (first ∙ ap (λ ws. word ∷ ws) second))
