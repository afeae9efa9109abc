-- Laws of several filters.
use Rattle.std.specs.Prelude.{◌≡◌, Bool, true, IsPermutation, List, [], ◌∷◌, filter, length, map}
use Rattle.std.specs.List.{list_all}
use Rattle.stick_model.specs.Filters.{passes}
use Rattle.stick_model.specs.Key.{Key}
use Rattle.stick_model.specs.State.{State, row}
use Rattle.stick_model.specs.Step.{listed}
use Rattle.stick_model.specs.declared.rows.Record.{Record}
use Rattle.stick_model.specs.declared.filters.Filter.{Filter}
use Rattle.stick_model.specs.declared.filters.Filter.TheVariants.{Compare, Everything}
use Rattle.stick_model.specs.declared.replies.Reply.{Reply}
use Rattle.stick_model.specs.declared.replies.Reply.TheVariants.{Rows}
use Rattle.table_texts.specs.declared.comparisons.Comparison.{Comparison}
use Rattle.table_cli.specs.Matching.{are_stored, first_filter, narrowed, other_filters}

-- the filter of a table that compares the same
abbrev pub filter_of : Comparison → Filter
filter_of one = Compare one.field one.op one.bound

-- whether an entry of a table passes all filters
abbrev pub passes_all : State → List Comparison → Key × Record → Bool
passes_all state all entry = list_all (λ (one : Comparison). passes state.clock state.tickets (filter_of one) entry) all

-- a table's listing of the entries that pass all filters
abbrev pub listed_all : State → List Comparison → Reply
listed_all state all = Rows (length state.records) (map (λ (entry : Key × Record). row state entry.0 entry.1) (filter (passes_all state all) state.records))

-- what a table lists by the first filter, with the rows alone that match the others: the entries that pass all
abbrev pub MatchingLaw : Type 0
MatchingLaw = (state : State) (all : List Comparison) → are_stored state.spec.columns all ≡ true →
    narrowed (other_filters all) (listed state (first_filter all)) ≡ listed_all state all

-- in whatever order the filters stand
abbrev pub OrderLaw : Type 0
OrderLaw = (state : State) (all others : List Comparison) → IsPermutation all others → listed_all state all ≡ listed_all state others

-- no filter shows all entries, and one filter those that a table lists by it
abbrev pub FewFiltersLaw : Type 0
FewFiltersLaw = (state : State) (one : Comparison) → (listed_all state [] ≡ listed state Everything) × (listed_all state (one ∷ []) ≡ listed state (filter_of one))
