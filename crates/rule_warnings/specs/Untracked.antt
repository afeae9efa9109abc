-- What a rule comes to for each connection whose slot tracks nothing, whatever else is so of the connection.
use Rattle.std.specs.Prelude.{Bool, true, false, not, ◌&&◌, List, Option, Some, None}
use Rattle.std.specs.List.{list_all, list_any}
use Rattle.rule_model.specs.declared.actions.Slot.{Slot}
use Rattle.rule_model.specs.declared.actions.Slot.TheVariants.{Sc0, Sc1, Sc2}
use Rattle.rule_model.specs.declared.criteria.Criterion.{Criterion}
use Rattle.rule_model.specs.declared.criteria.Criterion.TheVariants as criteria
use Rattle.rule_model.specs.declared.criteria.Measure.{Measure}
use Rattle.rule_model.specs.declared.criteria.Measure.TheVariants as measures
use Rattle.rule_model.specs.declared.rules.Rule.{Rule}
use Rattle.rule_model.specs.declared.rules.Term.{Term}

-- a value, or with `!` and with `unless` its contrary
abbrev pub unless_negated : Bool → Bool → Bool
unless_negated true value = not value
unless_negated false value = value

abbrev pub same_slot : Slot → Slot → Bool
same_slot Sc0 Sc0 = true
same_slot Sc1 Sc1 = true
same_slot Sc2 Sc2 = true
same_slot slot other = false

-- whether an integer is read through the slot: of its entry, or by an act on it
abbrev pub is_read_through : Slot → Measure → Bool
is_read_through slot measures.SourcePort = false
is_read_through slot measures.DestinationPort = false
is_read_through slot (measures.Tracked read fetch) = same_slot read slot
is_read_through slot (measures.Counted read act) = same_slot read slot
is_read_through slot (measures.Source table fetch) = false

-- whether a criterion is sure to have this value: what is read through the slot is false, and so is that it tracks
abbrev pub criterion_is : Slot → Bool → Criterion → Bool
criterion_is slot value (criteria.Always always) = not (unless_negated always value)
criterion_is slot value (criteria.IsTracked asked) = same_slot asked slot && not value
criterion_is slot value (criteria.Source networks) = false
criterion_is slot value (criteria.Matches measure patterns) = is_read_through slot measure && not value

-- criteria hold together where one of them does
abbrev pub criteria_are : Slot → Bool → List Criterion → Bool
criteria_are slot true criteria = list_any (criterion_is slot true) criteria
criteria_are slot false criteria = list_all (criterion_is slot false) criteria

abbrev pub term_is : Slot → Bool → Term → Bool
term_is slot value term = criteria_are slot (unless_negated term.negated value) term.criteria

-- a conjunction holds where all its terms do
abbrev pub conjunction_is : Slot → Bool → List Term → Bool
conjunction_is slot true terms = list_all (term_is slot true) terms
conjunction_is slot false terms = list_any (term_is slot false) terms

-- and a condition where one of its conjunctions does
abbrev pub condition_is : Slot → Bool → List (List Term) → Bool
condition_is slot true conjunctions = list_any (conjunction_is slot true) conjunctions
condition_is slot false conjunctions = list_all (conjunction_is slot false) conjunctions

-- whether a rule's action is sure to be done, or with `false` sure not to be done
abbrev pub is_done_under : Slot → Bool → Bool → Option (List (List Term)) → Bool
is_done_under slot value unless None = value
is_done_under slot value unless (Some conjunctions) = condition_is slot (unless_negated unless value) conjunctions

abbrev pub rule_is_done : Slot → Bool → Rule → Bool
rule_is_done slot value rule = is_done_under slot value rule.unless rule.condition
