-- On words cut into rows: what a row is, and what a write to a row's words leaves.
use Rattle.std.proofs.Common.{◌≡◌, ℕ, suc, zero, ◌+◌, ◌*◌, ◌<◌, ◌≤◌, List, [], ◌∷◌, ◌++◌, refl, sym, ap, ◌∙◌, arith, length, get_or, set, take, drop, map, replicate, append_assoc, take-add, take_at, drop_at, drop-drop, length-take, length-drop, length-append}
use Rattle.std.proofs.Math.Nat.{suc-mul}
use Rattle.std.proofs.Math.ListN.{length-replicate}
use Rattle.std.proofs.lemmas.Nat.{mul-le}
use Rattle.std.proofs.lemmas.List.{map-set, length-map, replicate-append-replicate}
use Rattle.stored_data.specs.Acts.{zero_of}
use Rattle.stored_data.specs.Words.{fields_in}
use Rattle.stored_data.specs.declared.stored_set.Column.{Column}
use Rattle.stored_data.specs.declared.values.StoredValue.{StoredValue}
use Rattle.stored_data.proofs.Rows.{zeros_are_new}
use Rattle.stick_pooled.specs.Grid.{Grid, grid, row_at, with_row, zero_rows}
use Rattle.stick_pooled.specs.Cut.{cut, rows_in, words_at, with_words}

length-cut : (count width : ℕ) (words : List ℕ) → length (cut count width words) ≡ count
length-cut zero width words = refl
length-cut (suc count) width words = let rest = length-cut count width (drop width words) in omega (arith, rest)

-- a row lies within the words
fits : (count width at total : ℕ) → at < count → total ≡ count * width → at * width + width ≤ total
fits count width at total inside is =
    let wide : suc at * width ≤ count * width = mul-le (suc at) width count width (omega arith) (omega arith) in
    let next = suc-mul at width in
    omega (arith, wide, next)

shifted : (k width : ℕ) (words : List ℕ) → drop (k * width) (drop width words) ≡ drop (suc k * width) words
shifted k width words =
    let next : width + k * width ≡ suc k * width = omega (arith, suc-mul k width) in
    drop-drop (k * width) width words ∙ ap (λ n. drop n words) next

none : (width : ℕ) → 0 * width ≡ 0
none width = omega arith

rows-read : (columns : List Column) (count width k : ℕ) (words : List ℕ) (d : List StoredValue) → k < count → get_or (rows_in columns count width words) k d ≡ fields_in columns (words_at words k width)
rows-read columns zero width k words d inside = absurd (omega arith)
rows-read columns (suc count) width zero words d inside = ap (λ n. fields_in columns (take width (drop n words))) (sym (none width))
rows-read columns (suc count) width (suc k) words d inside = rows-read columns count width k (drop width words) d (omega arith) ∙ ap (λ left. fields_in columns (take width left)) (shifted k width words)

-- a list that begins with a row's words
cut-prefix : (count width : ℕ) (prefix later : List ℕ) → length prefix ≡ width → cut (suc count) width (prefix ++ later) ≡ prefix ∷ cut count width later
cut-prefix count width prefix later sized = ap (λ row. row ∷ cut count width (drop width (prefix ++ later))) (take_at prefix later width sized) ∙ ap (λ left. prefix ∷ cut count width left) (drop_at prefix later width sized)

-- a write behind the first row's words
written-later : (width k : ℕ) (words row : List ℕ) → with_words words (suc k) width row ≡ take width words ++ with_words (drop width words) k width row
written-later width k words row =
    let next : suc k * width ≡ width + k * width = omega (arith, suc-mul k width) in
    let behind : suc k * width + width ≡ width + (k * width + width) = omega (arith, suc-mul k width) in
    ap (λ n. take n words ++ (row ++ drop (suc k * width + width) words)) next
    ∙ ap (λ n. take (width + k * width) words ++ (row ++ drop n words)) behind
    ∙ ap (λ prefix. prefix ++ (row ++ drop (width + (k * width + width)) words)) (take-add width (k * width) words)
    ∙ ap (λ back. (take width words ++ take (k * width) (drop width words)) ++ (row ++ back)) (sym (drop-drop (k * width + width) width words))
    ∙ append_assoc (take width words) (take (k * width) (drop width words)) (row ++ drop (k * width + width) (drop width words))

prefix-long : (count width : ℕ) (words : List ℕ) → length words ≡ suc count * width → length (take width words) ≡ width
prefix-long count width words sized = let whole = suc-mul count width in omega (arith, whole, length-take width words)

rest-long : (count width : ℕ) (words : List ℕ) → length words ≡ suc count * width → length (drop width words) ≡ count * width
rest-long count width words sized = let whole = suc-mul count width in omega (arith, whole, length-drop width words)

cut-write : (count width k : ℕ) (words row : List ℕ) → k < count → length words ≡ count * width → length row ≡ width → cut count width (with_words words k width row) ≡ set (cut count width words) k row
cut-write zero width k words row inside sized long = absurd (omega arith)
cut-write (suc count) width zero words row inside sized long =
    let start = none width in
    ap (λ n. cut (suc count) width (take n words ++ (row ++ drop (n + width) words))) start
    ∙ ap (λ n. cut (suc count) width (row ++ drop n words)) (zero-add width)
    ∙ cut-prefix count width row (drop width words) long
  where
    zero-add : (n : ℕ) → 0 + n ≡ n
    zero-add n = omega arith
cut-write (suc count) width (suc k) words row inside sized long =
    ap (cut (suc count) width) (written-later width k words row)
    ∙ cut-prefix count width (take width words) (with_words (drop width words) k width row) (prefix-long count width words sized)
    ∙ ap (λ rows. take width words ∷ rows) (cut-write count width k (drop width words) row (omega arith) (rest-long count width words sized) long)

-- ---- the rows as a contract sees them
below : (columns : List Column) (count width at : ℕ) (words : List ℕ) (g : Grid) → grid columns (rows_in columns count width words) ≡ g → at < length g.rows → at < count
below columns count width at words g is inside =
    let sized : length g.rows ≡ count = ap (λ (x : Grid). length x.rows) (sym is) ∙ length-map (cut count width words) (fields_in columns) ∙ length-cut count width words in
    omega arith

-- a row that a contract sees lies within the words
pub lies : (columns : List Column) (count width at total : ℕ) (words : List ℕ) (g : Grid) → grid columns (rows_in columns count width words) ≡ g → at < length g.rows → total ≡ count * width → at * width + width ≤ total
lies columns count width at total words g is inside sized = fits count width at total (below columns count width at words g is inside) sized

pub read : (columns : List Column) (count width at : ℕ) (words : List ℕ) (g : Grid) → grid columns (rows_in columns count width words) ≡ g → at < length g.rows → fields_in columns (words_at words at width) ≡ row_at g at
read columns count width at words g is inside = sym (rows-read columns count width at words [] (below columns count width at words g is inside)) ∙ ap (λ (x : Grid). row_at x at) is

-- the columns and a row's words, by whatever names they are had, are the row's data
pub read-as : (columns found : List Column) (count width at : ℕ) (words row : List ℕ) (g : Grid) → grid columns (rows_in columns count width words) ≡ g → at < length g.rows → found ≡ columns → row ≡ words_at words at width
    → fields_in found row ≡ row_at g at
read-as columns found count width at words row g is inside same taken = ap (λ columns. fields_in columns row) same ∙ ap (fields_in columns) taken ∙ read columns count width at words g is inside

-- a row's words were written, and mean these data
pub write : (columns : List Column) (count width at : ℕ) (old new : List ℕ) (fields : List StoredValue) (g : Grid) → grid columns (rows_in columns count width old) ≡ g → at < length g.rows → length old ≡ count * width
    → length (words_at new at width) ≡ width → new ≡ with_words old at width (words_at new at width) → fields_in columns (words_at new at width) ≡ fields
    → grid columns (rows_in columns count width new) ≡ with_row g at fields
write columns count width at old new fields g is inside sized long elsewhere shows =
    ap (λ words. grid columns (rows_in columns count width words)) elsewhere
    ∙ ap (λ rows. grid columns (map (fields_in columns) rows)) (cut-write count width at old (words_at new at width) (below columns count width at old g is inside) sized long)
    ∙ ap (grid columns) (map-set (fields_in columns) (cut count width old) at (words_at new at width))
    ∙ ap (λ row. grid columns (set (rows_in columns count width old) at row)) shows
    ∙ ap (λ (x : Grid). with_row x at fields) is

-- and are as many
pub sized-write : (columns : List Column) (count width at : ℕ) (old new : List ℕ) (g : Grid) → grid columns (rows_in columns count width old) ≡ g → at < length g.rows → length old ≡ count * width → length (words_at new at width) ≡ width → new ≡ with_words old at width (words_at new at width) → length new ≡ count * width
sized-write columns count width at old new g is inside sized long elsewhere =
    let within = lies columns count width at (length old) old g is inside sized in
    let joined : length new ≡ length (take (at * width) old) + (length (words_at new at width) + length (drop (at * width + width) old)) =
    ap length elsewhere ∙ length-append (take (at * width) old) (words_at new at width ++ drop (at * width + width) old) ∙ ap (λ n. length (take (at * width) old) + n) (length-append (words_at new at width) (drop (at * width + width) old)) in
    omega (arith, joined, within, length-take (at * width) old, length-drop (at * width + width) old)

-- ---- rows of a new table
cut-zeros : (columns : List Column) (count width total : ℕ) → total ≡ count * width → rows_in columns count width (replicate total 0) ≡ replicate count (zero_of columns)
cut-zeros columns zero width total is = refl
cut-zeros columns (suc count) width total is =
    let split : total ≡ width + count * width = omega (arith, is, suc-mul count width) in
    ap (λ n. rows_in columns (suc count) width (replicate n 0)) split
    ∙ ap (λ (words : List ℕ). rows_in columns (suc count) width words) (sym (replicate-append-replicate width (count * width) 0))
    ∙ ap (map (fields_in columns)) (cut-prefix count width (replicate width 0) (replicate (count * width) 0) (length-replicate width 0))
    ∙ ap (λ row. row ∷ rows_in columns count width (replicate (count * width) 0)) (zeros_are_new (replicate width 0) width refl columns)
    ∙ ap (λ rows. zero_of columns ∷ rows) (cut-zeros columns count width (count * width) refl)

pub new-rows : (columns : List Column) (count width total : ℕ) (words : List ℕ) → total ≡ count * width → words ≡ replicate total 0 → grid columns (rows_in columns count width words) ≡ zero_rows count columns
new-rows columns count width total words is zeros = ap (λ ws. grid columns (rows_in columns count width ws)) zeros ∙ ap (grid columns) (cut-zeros columns count width total is)
