-- What the rule that a warning advises comes to, and that what is warned of as no key is none.
use Rattle.std.specs.Prelude.{◌≡◌, ℕ, true, false, List, [], ◌∷◌, ◌++◌, Some, None}
use Rattle.stick_key.specs.Convert.{converted}
use Rattle.stick_key.specs.declared.kind.KeyType.{KeyType}
use Rattle.rule_addresses.specs.declared.masking.Prefixes.{Prefixes}
use Rattle.rule_eval.specs.Tables.{sample_of}
use Rattle.rule_eval.specs.declared.wants.Samples.{Samples}
use Rattle.rule_model.specs.declared.actions.KeyExpression.{KeyExpression}
use Rattle.std.specs.List.{AllByRecursion}
use Rattle.rule_model.specs.declared.actions.Action.TheVariants as actions
use Rattle.rule_model.specs.declared.actions.Slot.{Slot}
use Rattle.rule_model.specs.declared.criteria.Criterion.TheVariants as criteria
use Rattle.rule_model.specs.declared.rules.Rule.{Rule}
use Rattle.rule_model.specs.declared.sections.NamedSpec.{NamedSpec}
use Rattle.rule_warnings.specs.Limits.{failing, is_sure}
use Rattle.rule_warnings.specs.NoEffect.{can_be_key}

-- reject unless { sc0_tracked }, or of another slot
abbrev pub guard : Slot → Rule
guard slot = record {
  action = actions.Reject;
  unless = true;
  condition = Some ((record { negated = false; criteria = criteria.IsTracked slot ∷ [] } ∷ []) ∷ []);
}

-- behind rules none of which is sure to judge it, the advised rule leaves no limit by its slot that fails open
abbrev pub AdviceLaw : Type 0
AdviceLaw = (connections shards : ℕ) (slot : Slot) (before after : List Rule) (named : NamedSpec) →
    AllByRecursion (λ rule. is_sure slot rule ≡ false) before → failing connections shards (before ++ guard slot ∷ after) slot named ≡ None

-- an expression that can't be a key of a type gives it none, whatever the connection is and however much of its source counts
abbrev pub KeyLaw : Type 0
KeyLaw = (kind : KeyType) (key : KeyExpression) → can_be_key kind key ≡ false → (prefixes : Prefixes) (known : Samples) → converted (sample_of prefixes known key) kind ≡ None
