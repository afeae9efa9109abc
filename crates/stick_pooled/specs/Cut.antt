-- How `Rows` lie in words. No public clause cites this module.
use Rattle.std.specs.Prelude.{ℕ, zero, suc, ◌+◌, ◌*◌, List, [], ◌∷◌, ◌++◌, take, drop, map}
use Rattle.stored_data.specs.Words.{fields_in}
use Rattle.stored_data.specs.declared.stored_set.Column.{Column}
use Rattle.stored_data.specs.declared.values.StoredValue.{StoredValue}

-- the words cut into so many rows of a width
abbrev pub cut : ℕ → ℕ → List ℕ → List (List ℕ)
cut zero width words = []
cut (suc count) width words = take width words ∷ cut count width (drop width words)

-- the data of so many rows
abbrev pub rows_in : List Column → ℕ → ℕ → List ℕ → List (List StoredValue)
rows_in columns count width words = map (fields_in columns) (cut count width words)

-- the words of a row
abbrev pub words_at : List ℕ → ℕ → ℕ → List ℕ
words_at words at width = take width (drop (at * width) words)

-- the words, where those of a row are these
abbrev pub with_words : List ℕ → ℕ → ℕ → List ℕ → List ℕ
with_words words at width row = take (at * width) words ++ (row ++ drop (at * width + width) words)
