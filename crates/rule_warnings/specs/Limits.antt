-- Which limits fail open: a connection that finds the table full is tracked by nothing, and passes what is read of its entry.
use Rattle.std.specs.Prelude.{ℕ, ◌+◌, ◌*◌, ◌/◌, nat_lt, Bool, true, false, not, ◌&&◌, ◌||◌, if◌then◌else◌, List, [], ◌∷◌, Option, Some, None, is_some}
use Rattle.std.specs.List.{count_by, list_any}
use Rattle.std.specs.Bool.{beq}
use Rattle.std.specs.Str.{bytes_eq}
use Rattle.rule_model.specs.declared.actions.Action.{Action}
use Rattle.rule_model.specs.declared.actions.Action.TheVariants as actions
use Rattle.rule_model.specs.declared.actions.KeyExpression.{KeyExpression}
use Rattle.rule_model.specs.declared.actions.KeyExpression.TheVariants as keys
use Rattle.rule_model.specs.declared.actions.Slot.{Slot}
use Rattle.rule_model.specs.declared.actions.Slot.TheVariants.{Sc0, Sc1, Sc2}
use Rattle.rule_model.specs.declared.criteria.Criterion.{Criterion}
use Rattle.rule_model.specs.declared.criteria.Criterion.TheVariants as criteria
use Rattle.rule_model.specs.declared.rules.Rule.{Rule}
use Rattle.rule_model.specs.declared.rules.Term.{Term}
use Rattle.rule_model.specs.declared.sections.NamedSpec.{NamedSpec}
use Rattle.rule_warnings.specs.Untracked.{same_slot, is_read_through, rule_is_done}
use Rattle.rule_warnings.specs.declared.limits.Sought.{Sought}
use Rattle.rule_warnings.specs.declared.limits.Sought.TheVariants.{Reads, Asks}
use Rattle.rule_warnings.specs.declared.warning.Shortage.{Shortage}
use Rattle.rule_warnings.specs.declared.warning.Shortage.TheVariants.{Places, References, Unpurged}

-- ---- which rules limit by a slot, and which turn away what it doesn't track

abbrev pub is_reject : Action → Bool
is_reject actions.Accept = false
is_reject actions.Reject = true
is_reject (actions.Track slot key table) = false
is_reject (actions.Count slot act) = false

-- whether an action ends with a verdict
abbrev pub is_verdict : Action → Bool
is_verdict actions.Accept = true
is_verdict actions.Reject = true
is_verdict (actions.Track slot key table) = false
is_verdict (actions.Count slot act) = false

-- what is looked for in a condition: what reads through a slot, or what asks whether a slot tracks
abbrev pub finds : Sought → Criterion → Bool
finds sought (criteria.Always value) = false
finds (Reads slot) (criteria.IsTracked asked) = false
finds (Asks slot) (criteria.IsTracked asked) = same_slot asked slot
finds sought (criteria.Source networks) = false
finds (Reads slot) (criteria.Matches measure patterns) = is_read_through slot measure
finds (Asks slot) (criteria.Matches measure patterns) = false

abbrev pub term_has : Sought → Term → Bool
term_has sought term = list_any (finds sought) term.criteria

abbrev pub terms_have : Sought → List Term → Bool
terms_have sought terms = list_any (term_has sought) terms

abbrev pub condition_has : Sought → Option (List (List Term)) → Bool
condition_has sought None = false
condition_has sought (Some conjunctions) = list_any (terms_have sought) conjunctions

-- a rule that rejects by what it reads through the slot
abbrev pub limits_by : Slot → Rule → Bool
limits_by slot rule = is_reject rule.action && condition_has (Reads slot) rule.condition

-- whether a rule is sure to judge what the slot doesn't track
unfoldable pub is_sure : Slot → Rule → Bool
is_sure slot rule = is_verdict rule.action && rule_is_done slot true rule

-- the first rule that is sure to judge it rejects it
abbrev pub turns_away : Slot → List Rule → Bool
turns_away slot [] = false
turns_away slot (rule ∷ more) = if is_sure slot rule then is_reject rule.action else turns_away slot more

-- a rule that asks whether the slot tracks, and may reject where it doesn't
abbrev pub may_turn_away : Slot → Rule → Bool
may_turn_away slot rule = is_reject rule.action && condition_has (Asks slot) rule.condition && not (rule_is_done slot false rule)

-- ---- what is tracked in a table

abbrev pub tracks_in : List ℕ → Slot → Action → Bool
tracks_in name slot actions.Accept = false
tracks_in name slot actions.Reject = false
tracks_in name slot (actions.Track tracking key table) = same_slot tracking slot && bytes_eq table name
tracks_in name slot (actions.Count counting act) = false

-- whether a rule tracks by the slot in the table of this name, and one does so under no condition
abbrev pub is_tracked : List ℕ → Slot → List Rule → Bool
is_tracked name slot rules = list_any (λ (rule : Rule). tracks_in name slot rule.action) rules

abbrev pub is_always_tracked : List ℕ → Slot → List Rule → Bool
is_always_tracked name slot rules = list_any (λ (rule : Rule). tracks_in name slot rule.action && not (is_some rule.condition)) rules

-- whether connections have keys of their own by an expression; the proxy has one address, so one port that they come to
abbrev pub varies : KeyExpression → Bool
varies keys.Source = true
varies keys.SourcePort = true
varies keys.DestinationPort = false
varies (keys.Integer number) = false
varies (keys.Text text) = false

-- whether an action tracks a key in the table: one that connections have of their own, or one that all share
abbrev pub tracks : Bool → List ℕ → Action → Bool
tracks own name actions.Accept = false
tracks own name actions.Reject = false
tracks own name (actions.Track slot key table) = beq (varies key) own && bytes_eq table name
tracks own name (actions.Count slot act) = false

abbrev pub has_own_keys : List ℕ → List Rule → Bool
has_own_keys name rules = list_any (λ (rule : Rule). tracks true name rule.action) rules

abbrev pub shared_keys : List ℕ → List Rule → ℕ
shared_keys name rules = count_by (λ (rule : Rule). tracks false name rule.action) rules

-- ---- what connections want of a table at once, at most, and what it has

abbrev pub one_if : Bool → ℕ
one_if true = 1
one_if false = 0

-- how many references a connection can hold in the table
abbrev pub slots_in : List ℕ → List Rule → ℕ
slots_in name rules = one_if (is_tracked name Sc0 rules) + one_if (is_tracked name Sc1 rules) + one_if (is_tracked name Sc2 rules)

abbrev pub references_wanted : ℕ → List ℕ → List Rule → ℕ
references_wanted connections name rules = connections * slots_in name rules

-- a place for each reference, or for each key, where all connections share them
unfoldable pub places_wanted : ℕ → List ℕ → List Rule → ℕ
places_wanted connections name rules = if has_own_keys name rules then references_wanted connections name rules else shared_keys name rules

-- how many places the smallest of the table's shards has: all keys may lie there
abbrev pub places_of : ℕ → NamedSpec → ℕ
places_of shards named = named.spec.size / shards

-- whether more references may be wanted of a shard than it has, or keys that no connection holds any more stay
unfoldable pub shortage_of_references : ℕ → List Rule → NamedSpec → Option Shortage
shortage_of_references connections rules named =
    if nat_lt named.spec.max_refs (references_wanted connections named.name rules) then
    Some (References (references_wanted connections named.name rules) named.spec.max_refs)
    else if named.spec.nopurge && has_own_keys named.name rules then
    Some Unpurged
    else
    None

-- why a connection may find the table full: more places may be wanted of a shard than it has, or one of those
abbrev pub shortage : ℕ → ℕ → List Rule → NamedSpec → Option Shortage
shortage connections shards rules named =
    if nat_lt (places_of shards named) (places_wanted connections named.name rules) then
    Some (Places (places_wanted connections named.name rules) (places_of shards named))
    else
    shortage_of_references connections rules named

-- ---- which limits fail open

-- whether a rule turns away what the slot doesn't track; where the slot tracks under a condition, as many as the rule says
abbrev pub is_guarded : List ℕ → Slot → List Rule → Bool
is_guarded name slot rules =
    turns_away slot rules || (not (is_always_tracked name slot rules) && list_any (may_turn_away slot) rules)

-- whether rules limit by the slot what it tracks in the table, and let in what it doesn't track
abbrev pub passes_untracked : List ℕ → Slot → List Rule → Bool
passes_untracked name slot rules =
    is_tracked name slot rules && list_any (limits_by slot) rules && not (is_guarded name slot rules)

-- why such a limit fails open, if it does
abbrev pub failing : ℕ → ℕ → List Rule → Slot → NamedSpec → Option Shortage
failing connections shards rules slot named =
    if passes_untracked named.name slot rules then shortage connections shards rules named else None
