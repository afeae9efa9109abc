-- How gathered rows lie in memory: what one more does to them.
use Rattle.std.proofs.Common.{◌≡◌, ℕ, sym, ◌∙◌, ap, subst, arith, List, [], ◌∷◌, ◌++◌, length, take, drop, length-append}
use Rattle.std.proofs.lemmas.List.{take-append-le, drop-append-le, take_all, drop_all}
use Rattle.stored_data.specs.Words.{fields_in, width}
use Rattle.stored_data.specs.declared.stored_set.Column.{Column}
use Rattle.stick_model.specs.declared.gathering.Head.{Head}
use Rattle.stick_model.specs.Gathered.{AreCut, row_with, rows_in}

-- with the bytes and the words of one head more
pub cut-more : (wide : ℕ) (heads : List Head) (bytes words : List ℕ) (head : Head) (key row : List ℕ) → AreCut wide heads bytes words → head.size ≡ length key → length row ≡ wide
    → AreCut wide (heads ++ head ∷ []) (bytes ++ key) (words ++ row)
cut-more wide [] bytes words head key row cut keyed sized = (
  omega (arith, length-append bytes key, keyed),
  omega (arith, length-append words row, sized),
  (drop_all head.size (bytes ++ key) (omega (arith, length-append bytes key, keyed, ap length cut.0)), drop_all wide (words ++ row) (omega (arith, length-append words row, sized, ap length cut.1))),
)
cut-more wide (h ∷ heads) bytes words head key row cut keyed sized = (
  omega (arith, length-append bytes key, cut.0),
  omega (arith, length-append words row, cut.1),
  subst (λ b. AreCut wide (heads ++ head ∷ []) b (drop wide (words ++ row))) (sym (drop-append-le h.size bytes key cut.0))
      (subst (λ w. AreCut wide (heads ++ head ∷ []) (drop h.size bytes ++ key) w) (sym (drop-append-le wide words row cut.1)) (cut-more wide heads (drop h.size bytes) (drop wide words) head key row cut.2 keyed sized)),
)

module _ (columns : List Column) (clock : ℕ) where
  pub rows-more : (heads : List Head) (bytes words : List ℕ) (head : Head) (key row : List ℕ) → AreCut (width columns) heads bytes words → head.size ≡ length key → length row ≡ width columns
      → rows_in columns clock (heads ++ head ∷ []) (bytes ++ key) (words ++ row) ≡ rows_in columns clock heads bytes words ++ row_with columns clock key head.refs head.left (fields_in columns row) ∷ []
  rows-more [] bytes words head key row cut keyed sized =
      let own : take head.size (bytes ++ key) ≡ key = ap (λ b. take head.size (b ++ key)) cut.0 ∙ take_all head.size key (omega (arith, keyed)) in
      let kept : take (width columns) (words ++ row) ≡ row = ap (λ w. take (width columns) (w ++ row)) cut.1 ∙ take_all (width columns) row (omega (arith, sized)) in
      λ i. row_with columns clock (own i) head.refs head.left (fields_in columns (kept i)) ∷ []
  rows-more (h ∷ heads) bytes words head key row cut keyed sized =
      let own = take-append-le h.size bytes key cut.0 in
      let kept = take-append-le (width columns) words row cut.1 in
      let keys = drop-append-le h.size bytes key cut.0 in
      let later = drop-append-le (width columns) words row cut.1 in
      (λ i. row_with columns clock (own i) h.refs h.left (fields_in columns (kept i)) ∷ rows_in columns clock (heads ++ head ∷ []) (keys i) (later i))
      ∙ ap (λ rows. row_with columns clock (take h.size bytes) h.refs h.left (fields_in columns (take (width columns) words)) ∷ rows)
      (rows-more heads (drop h.size bytes) (drop (width columns) words) head key row cut.2 keyed sized)
