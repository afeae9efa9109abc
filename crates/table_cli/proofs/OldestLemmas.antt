-- On rows beside the stamps of their entries, and on the rows of shards, one behind the other.
use Rattle.std.proofs.Common.{◌≡◌, ◌∙◌, ◌<◌, ◌+◌, ℕ, suc, true, filter, Some, None, List, [], ◌∷◌, ◌++◌, map, length, get_or, position, refl, sym, ap, subst, arith}
use Rattle.std.specs.Str.{bytes_eq}
use Rattle.stick_model.specs.Key.{Key}
use Rattle.stick_model.specs.State.{State, advance, row}
use Rattle.stick_model.specs.Step.{Outcome, Step}
use Rattle.stick_model.specs.declared.rows.Record.{Record}
use Rattle.stick_model.specs.declared.rows.Row.{Row}
use Rattle.stick_model.specs.declared.specification.Spec.{Spec}
use Rattle.stick_model.specs.declared.events.Event.TheVariants.{List as ListRows}
use Rattle.stick_model.specs.declared.filters.Filter.TheVariants.{Everything}
use Rattle.stick_model.specs.declared.replies.Reply.{Reply}
use Rattle.stick_model.specs.declared.replies.Reply.TheVariants.{Rows}
use Rattle.shard_book.specs.NamedTables.{NamedState, state_of, states_of}
use Rattle.shard_book.specs.declared.named.Named.{Named}
use Rattle.table_texts.specs.Texts.{message_text}
use Rattle.table_texts.specs.declared.message.Message.TheVariants.{NoSuchTable}
use Rattle.table_cli.specs.Answers.{place_of}
use Rattle.table_cli.specs.OldestFirst.{ShowFirst, ShowsAt, ShowsNamed, ShowsOldestFirst, ShowsPlace, beside, stamped}
use Rattle.table_cli.specs.declared.stamped.Stamped.{Stamped}
use Rattle.table_cli.proofs.TableLemmas.{position-map, seen_at}

-- ---- a shard

every : {X : Type 0} (xs : List X) → filter (λ x. true) xs ≡ xs
every [] = refl
every (x ∷ xs) = ap (λ ys. x ∷ ys) (every xs)

-- a listing of everything shows the row of each entry, and leaves those that it shows
pub listed_rows : (old new : State) (moment : ℕ) (reply : Reply) → Step old (ListRows moment Everything) reply new
    → reply ≡ Rows (length (advance old moment).records) (map (λ (entry : Key × Record). row (advance old moment) entry.0 entry.1) (advance old moment).records)
listed_rows old new moment reply step =
    sym (ap (λ (o : Outcome). o.0) step.gives)
    ∙ ap (λ (entries : List (Key × Record)). Rows (length (advance old moment).records) (map (λ (entry : Key × Record). row (advance old moment) entry.0 entry.1) entries)) (every (advance old moment).records)

pub listed_records : (old new : State) (moment : ℕ) (reply : Reply) → Step old (ListRows moment Everything) reply new → new.records ≡ (advance old moment).records
listed_records old new moment reply step = sym (ap (λ (o : Outcome). o.1.records) step.gives)

beside-map : (f : Key × Record → Row) (entries : List (Key × Record)) → beside (map f entries) entries ≡ map (λ (entry : Key × Record). record { stamp = entry.1.stamp; row = f entry }) entries
beside-map f [] = refl
beside-map f (entry ∷ entries) = ap (λ (all : List Stamped). record { stamp = entry.1.stamp; row = f entry } ∷ all) (beside-map f entries)

rows_in : Reply → List Row
rows_in (Rows used rows) = rows
rows_in _ = []

-- the rows that a listing of everything shows, beside the entries that it leaves
pub listed_stamped : (old new : State) (moment used : ℕ) (rows : List Row) (reply : Reply) (all : List Stamped) → Step old (ListRows moment Everything) reply new → reply ≡ Rows used rows → all ≡ beside rows new.records
    → all ≡ map (stamped (advance old moment)) (advance old moment).records
unfolding rows_in
listed_stamped old new moment used rows reply all step is made =
    let entries : List (Key × Record) = (advance old moment).records in
    let shown : rows ≡ map (λ (entry : Key × Record). row (advance old moment) entry.0 entry.1) entries = ap rows_in (sym is ∙ listed_rows old new moment reply step) in
    made
    ∙ ap (beside rows) (listed_records old new moment reply step)
    ∙ ap (λ (all_rows : List Row). beside all_rows entries) shown
    ∙ beside-map (λ (entry : Key × Record). row (advance old moment) entry.0 entry.1) entries

-- ---- shards

module _ {S : Type 0} (holds : S → ℕ → State → Type 0) (moment : ℕ) (state : S) where
  -- the next shard shows its rows too
  pub shows_more : (i : ℕ) (before here all : List Row) → ShowFirst holds moment state i before → ShowsAt holds moment state i here → all ≡ before ++ here → ShowFirst holds moment state (i + 1) all
  shows_more i before here all so_far next is =
      let after : suc i ≡ i + 1 = omega arith in
      subst (λ n. ShowFirst holds moment state n all) after (before, here, so_far, next, is)

module _ {K S : Type 0} (holds : S → ℕ → State → Type 0) (spec : K → Spec) (parts : K → ℕ) (state : K → S) where
  -- the table at the place of a name is shown
  pub shown_at : (moment : ℕ) (name : List ℕ) (tables : List (Named K)) (place : ℕ) (was : Named K) (text : List ℕ)
      → place < length tables → was ≡ get_or tables place was → Some place ≡ position (λ table. bytes_eq table.name name) tables
      → ShowsOldestFirst holds moment (state_of spec parts state was) text
      → ShowsNamed holds moment name (states_of spec parts state tables) text
  shown_at moment name tables place was text within is found shows =
      let f : Named K → NamedState S = state_of spec parts state in
      let placed : place_of name (map f tables) ≡ Some place = position-map (λ (table : NamedState S). bytes_eq table.name name) f tables ∙ sym found in
      subst (λ o. ShowsPlace holds moment o (map f tables) text) (sym placed) (f was, seen_at spec parts state tables place was within is, shows)

  -- there is no table of the name
  pub none_shown : (moment : ℕ) (name : List ℕ) (tables : List (Named K)) → None ≡ position (λ table. bytes_eq table.name name) tables
      → ShowsNamed holds moment name (states_of spec parts state tables) (message_text NoSuchTable)
  none_shown moment name tables none =
      let f : Named K → NamedState S = state_of spec parts state in
      let placed : place_of name (map f tables) ≡ None = position-map (λ (table : NamedState S). bytes_eq table.name name) f tables ∙ sym none in
      subst (λ o. ShowsPlace holds moment o (map f tables) (message_text NoSuchTable)) (sym placed) refl
