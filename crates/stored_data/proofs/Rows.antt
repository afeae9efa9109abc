-- Data in words: what zeros mean, and what a change of an element's words leaves.
use Rattle.std.proofs.Common.{◌≡◌, ℕ, ◌+◌, ◌<◌, ◌≤◌, inl, inr, List, [], ◌∷◌, Bool, true, false, cond, refl, sym, ap, subst, ◌∙◌, arith, map}
use Rattle.std.specs.Prelude.{replicate, slice_index, filter, if◌then◌else◌, ◌==◌}
use Rattle.std.proofs.lemmas.Bool.{cases_lt}
use Rattle.std.proofs.lemmas.List.{get_or-replicate, get_or_past}
use Rattle.std.proofs.Math.ListN.{length-replicate}
use Rattle.rate_window.specs.Rate.{tally}
use Rattle.rate_window.specs.Words.{tally_in}
use Rattle.stored_data.specs.Data.{is_rate, place}
use Rattle.stored_data.specs.Fields.{Element, elements}
use Rattle.stored_data.specs.Acts.{is_kept, zero_field, zero_of, changed, change, put_content, put_field}
use Rattle.stored_data.specs.Words.{words_of, field_at, fields_from, fields_in, altered, edited, edited_change, edited_index, edited_moment}
use Rattle.stored_data.proofs.SameFields.{other_index, other_place, same_places}
use Rattle.stored_data.specs.declared.stored_set.Column.{Column}
use Rattle.stored_data.specs.declared.datum.Datum.{Datum}
use Rattle.stored_data.specs.declared.act.Change.TheVariants.{Keep, Set}
use Rattle.stored_data.specs.declared.values.Content.{Content}
use Rattle.stored_data.specs.declared.values.Content.TheVariants.{Number, Rate}
use Rattle.stored_data.specs.declared.values.StoredValue.{StoredValue}
use Rattle.stored_data.specs.declared.words.Edit.{Edit}
use Rattle.stored_data.specs.declared.words.Edit.TheVariants.{Do, Put}

-- ---- zeros
zero_word : (n k : ℕ) → slice_index (replicate n 0) k ≡ 0
zero_word n k = elim (cases_lt k n) as (λ _. slice_index (replicate n 0) k ≡ 0) [ inl h ↦ get_or-replicate n k 0 0 h | inr h ↦ get_or_past (replicate n 0) k 0 (subst (λ m. m ≤ k) (sym (length-replicate n 0)) h) ]

zero_content : (element : Element) (n at : ℕ) (b : Bool) →
    (if b then Rate (tally_in element.period (slice_index (replicate n 0) at) (slice_index (replicate n 0) (at + 1))) else Number (slice_index (replicate n 0) at))
    ≡ (if b then Rate (tally [] element.period) else Number 0)
zero_content element n at true = ap (λ w. Rate (tally_in element.period w (slice_index (replicate n 0) (at + 1)))) (zero_word n at) ∙ ap (λ s. Rate (tally_in element.period 0 s)) (zero_word n (at + 1))
zero_content element n at false = ap (λ w. Number w) (zero_word n at)

zeros_from : (all : List Element) (n at : ℕ) → fields_from all (replicate n 0) at ≡ map zero_field (filter is_kept all)
zeros_from [] n at = refl
zeros_from (element ∷ later) n at = by_kept (zeros_from later n (at + words_of element)) (is_kept element)
  where
    by_kept : fields_from later (replicate n 0) (at + words_of element) ≡ map zero_field (filter is_kept later) → (b : Bool)
        → cond b (field_at element (replicate n 0) at ∷ fields_from later (replicate n 0) (at + words_of element)) (fields_from later (replicate n 0) (at + words_of element))
        ≡ map zero_field (cond b (element ∷ filter is_kept later) (filter is_kept later))
    by_kept rest true =
        ap (λ content. record { field = element.field; content = content } ∷ fields_from later (replicate n 0) (at + words_of element)) (zero_content element n at (is_rate element.field.datum))
        ∙ ap (λ fields. zero_field element ∷ fields) rest
    by_kept rest false = rest

-- words that are all 0 are the data of a new key
pub zeros_are_new : (words : List ℕ) (n : ℕ) → words ≡ replicate n 0 → (columns : List Column) → fields_in columns words ≡ zero_of columns
zeros_are_new words n same columns = ap (λ ws. fields_from (elements columns) ws 0) same ∙ zeros_from (elements columns) n 0

-- ---- an edit as a change
put-is : (value : ℕ) (datum : Datum) (content : Content) → changed 0 datum (Set value) content ≡ put_content value content
put-is value datum (Number old) = refl
put-is value datum (Rate kept) = refl

-- an edit of the field that it is done to is its change
pub altered-edited : (edit : Edit) (stored : StoredValue) → (stored.field.index == edited_index edit stored.field.datum) ≡ true → altered (edited_moment edit) (edited_change edit stored.field.datum) stored ≡ edited edit stored
altered-edited (Do now act) stored same = sym (ap (λ b. altered now (if b then change act stored.field.datum else Keep) stored) same)
altered-edited (Put field value) stored same = by_place (place stored.field.datum == place field.datum) refl
  where
    by_place : (b : Bool) → (place stored.field.datum == place field.datum) ≡ b → altered 0 (if b then Set value else Keep) stored ≡ put_field field value stored
    by_place true here =
        ap (λ content. record { field = stored.field; content = content }) (put-is value stored.field.datum stored.content)
        ∙ sym (ap (λ b. if b then record { field = stored.field; content = put_content value stored.content } else stored) (same_places stored.field field here ∙ same))
    by_place false there = sym (ap (λ b. if b then record { field = stored.field; content = put_content value stored.content } else stored) (other_place stored.field field there))

-- an edit of another field leaves what is stored of this one
pub unedited : (edit : Edit) (stored : StoredValue) → (stored.field.index == edited_index edit stored.field.datum) ≡ false → edited edit stored ≡ stored
unedited (Do now act) stored other =
    ap (λ b. record { field = stored.field; content = changed now stored.field.datum (if b then change act stored.field.datum else Keep) stored.content }) other
unedited (Put field value) stored other =
    ap (λ b. if b then record { field = stored.field; content = put_content value stored.content } else stored) (other_index stored.field field other)

-- an edit that changes nothing in a datum leaves all its fields
pub edited-keeps : (edit : Edit) (datum : Datum) → edited_change edit datum ≡ Keep → (stored : StoredValue) → stored.field.datum ≡ datum → edited edit stored ≡ stored
edited-keeps edit datum keeps stored of = by_index edit (stored.field.index == edited_index edit stored.field.datum) refl (ap (edited_change edit) of ∙ keeps)
  where
    by_index : (edit : Edit) (b : Bool) → (stored.field.index == edited_index edit stored.field.datum) ≡ b → edited_change edit stored.field.datum ≡ Keep → edited edit stored ≡ stored
    by_index edit true same nothing = sym (altered-edited edit stored same) ∙ ap (λ c. altered (edited_moment edit) c stored) nothing
    by_index edit false other nothing = unedited edit stored other

abbrev in_words : Bool → ℕ → List ℕ → ℕ → Content
in_words b period words at = if b then Rate (tally_in period (slice_index words at) (slice_index words (at + 1))) else Number (slice_index words at)

-- what is stored of an element is in its own words
pub field_at-same : (element : Element) (old new : List ℕ) (at : ℕ) → is_kept element ≡ true → ((k : ℕ) → at ≤ k → k < at + words_of element → slice_index new k ≡ slice_index old k) → field_at element new at ≡ field_at element old at
field_at-same element old new at kept same =
    ap (λ content. record { field = element.field; content = content })
    (by_rate (is_rate element.field.datum) (λ k from to. same k from (subst (λ b. k < at + (if b then (if is_rate element.field.datum then 2 else 1) else 0)) (sym kept) to)))
  where
    by_rate : (b : Bool) → ((k : ℕ) → at ≤ k → k < at + (if b then 2 else 1) → slice_index new k ≡ slice_index old k) → in_words b element.period new at ≡ in_words b element.period old at
    by_rate true h = ap (λ w. Rate (tally_in element.period w (slice_index new (at + 1)))) (h at (omega arith) (omega arith)) ∙ ap (λ s. Rate (tally_in element.period (slice_index old at) s)) (h (at + 1) (omega arith) (omega arith))
    by_rate false h = ap (λ w. Number w) (h at (omega arith) (omega arith))
