-- Rules that begin by tracking the source and refusing it beyond a limit.
use Rattle.std.specs.Prelude.{◌≡◌, ℕ, ◌≤◌, Bool, true, false, List, [], ◌∷◌, Some, None, IsTrue}
use Rattle.std.specs.List.{AllByRecursion}
use Rattle.stored_data.specs.Acts.{value_at}
use Rattle.stored_data.specs.Fields.{plain}
use Rattle.stored_data.specs.Stored.{is_column}
use Rattle.stored_data.specs.declared.datum.Datum.TheVariants.{ConnCur}
use Rattle.stored_data.specs.declared.stored_set.Column.{Column}
use Rattle.stick_model.specs.Key.{Key}
use Rattle.stick_model.specs.State.{row_of}
use Rattle.stick_model.specs.declared.rows.Record.{Record}
use Rattle.rule_model.specs.declared.actions.Action.{Action}
use Rattle.rule_model.specs.declared.actions.Action.TheVariants as actions
use Rattle.rule_model.specs.declared.actions.KeyExpression.TheVariants as keys
use Rattle.rule_model.specs.declared.actions.Slot.{Slot}
use Rattle.rule_model.specs.declared.actions.Slot.TheVariants.{Sc0, Sc1, Sc2}
use Rattle.rule_model.specs.declared.criteria.Criterion.TheVariants as criteria
use Rattle.rule_model.specs.declared.criteria.Fetch.TheVariants as fetches
use Rattle.rule_model.specs.declared.criteria.Measure.TheVariants as measures
use Rattle.rule_model.specs.declared.criteria.Operator.TheVariants.{Gt}
use Rattle.rule_model.specs.declared.criteria.Pattern.TheVariants.{Compare}
use Rattle.rule_model.specs.declared.rules.Rule.{Rule}
use Rattle.rule_model.specs.declared.sections.Setup.{Setup}
use Rattle.rule_eval.specs.Readings.{value_in}
use Rattle.rule_eval.specs.Tables.{table_number, stores, key_of}
use Rattle.rule_eval.specs.Verdict.{next}
use Rattle.rule_eval.specs.declared.wants.Answer.{Answer}
use Rattle.rule_eval.specs.declared.wants.Answer.TheVariants as answers
use Rattle.rule_eval.specs.declared.wants.Samples.{Samples}
use Rattle.rule_eval.specs.declared.wants.Verdict.TheVariants.{Accept}
use Rattle.rule_eval.specs.declared.wants.Want.{Want}
use Rattle.rule_eval.specs.declared.wants.Want.TheVariants.{Track, Look, Done}

-- track-sc0 src, in the table of this name
abbrev pub tracking_rule : List ℕ → Rule
tracking_rule name = record { action = actions.Track Sc0 keys.Source name; unless = false; condition = None }

-- reject if { sc0_conn_cur gt limit }
abbrev pub refusing_rule : ℕ → Rule
refusing_rule limit = record {
  action = actions.Reject;
  unless = false;
  condition = Some ((record { negated = false; criteria = criteria.Matches (measures.Tracked Sc0 (fetches.Datum ConnCur)) (Compare Gt limit ∷ []) ∷ [] } ∷ []) ∷ []);
}

abbrev pub is_sc0 : Slot → Bool
is_sc0 Sc0 = true
is_sc0 Sc1 = false
is_sc0 Sc2 = false

-- whether an action is to track by sc0
abbrev pub tracks_sc0 : Action → Bool
tracks_sc0 actions.Accept = false
tracks_sc0 actions.Reject = false
tracks_sc0 (actions.Track slot key table) = is_sc0 slot
tracks_sc0 (actions.Count slot act) = false

-- whether a want is a reference for sc0
abbrev pub wants_sc0 : Want → Bool
wants_sc0 (Track slot table key) = is_sc0 slot
wants_sc0 want = false

-- the rules begin so, on a table that stores conn_cur, and no other rule tracks by sc0
pub record LimitsFirst (setup : Setup) (name : List ℕ) (table limit : ℕ) : Type 0 where
  pub later : List Rule
  pub begin : setup.rules ≡ tracking_rule name ∷ refusing_rule limit ∷ later
  pub named : table_number setup name ≡ Some table
  pub stored : IsTrue (stores setup table (fetches.Datum ConnCur))
  pub others : AllByRecursion (λ rule. tracks_sc0 rule.action ≡ false) later

-- answers that begin with a reference and a row of at most the limit, or without a reference
abbrev pub IsWithin : ℕ → List Answer → Type 0
IsWithin limit (answers.Tracked ∷ answers.Row row ∷ more) = value_in row.cells ConnCur ≤ limit
IsWithin limit (answers.Untracked ∷ more) = Unit {0}
IsWithin limit answers = ⊥

-- a connection whose source is a key of the table is accepted only so
abbrev pub WithinLaw : Type 0
WithinLaw = (setup : Setup) (name : List ℕ) (table limit : ℕ) (samples : Samples) (key : Key) (answers : List Answer) →
    LimitsFirst setup name table limit → key_of setup samples keys.Source table ≡ Some key → next setup samples answers ≡ Done Accept → IsWithin limit answers

-- first the reference is asked for, then its entry is looked at, and no reference for sc0 is asked for again
abbrev pub FirstLaw : Type 0
FirstLaw = (setup : Setup) (name : List ℕ) (table limit : ℕ) (samples : Samples) (key : Key) →
    LimitsFirst setup name table limit → key_of setup samples keys.Source table ≡ Some key → next setup samples [] ≡ Track Sc0 table key

abbrev pub SecondLaw : Type 0
SecondLaw = (setup : Setup) (name : List ℕ) (table limit : ℕ) (samples : Samples) (key : Key) →
    LimitsFirst setup name table limit → key_of setup samples keys.Source table ≡ Some key → next setup samples (answers.Tracked ∷ []) ≡ Look Sc0

abbrev pub OnceLaw : Type 0
OnceLaw = (setup : Setup) (name : List ℕ) (table limit : ℕ) (samples : Samples) (first : Answer) (more : List Answer) →
    LimitsFirst setup name table limit → wants_sc0 (next setup samples (first ∷ more)) ≡ false

-- a connection whose source is no key of the table never has a reference by sc0
abbrev pub NeverLaw : Type 0
NeverLaw = (setup : Setup) (name : List ℕ) (table limit : ℕ) (samples : Samples) (answers : List Answer) →
    LimitsFirst setup name table limit → key_of setup samples keys.Source table ≡ None → wants_sc0 (next setup samples answers) ≡ false

-- what a row shows of conn_cur is the number of references, where the table stores it and nothing is kept of it
abbrev pub ShownLaw : Type 0
ShownLaw = (columns : List Column) (clock count : ℕ) (key : Key) (found : Record) →
    is_column columns ConnCur ≡ true → value_at found.values (plain ConnCur) clock ≡ None → value_in (row_of columns clock count key found).cells ConnCur ≡ count
