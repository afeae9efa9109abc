-- The advised rule turns away what its slot doesn't track.
use Rattle.std.proofs.Common.{◌≡◌, Bool, true, false, not, ◌&&◌, ◌||◌, if◌then◌else◌, List, [], ◌∷◌, ◌++◌, Option, None, refl, sym}
use Rattle.std.proofs.lemmas.Bool.{false≢true}
use Rattle.std.specs.List.{AllByRecursion, list_any}
use Rattle.rule_model.specs.declared.actions.Slot.{Slot}
use Rattle.rule_model.specs.declared.actions.Slot.TheVariants.{Sc0, Sc1, Sc2}
use Rattle.rule_model.specs.declared.rules.Rule.{Rule}
use Rattle.rule_warnings.specs.Laws.{guard, AdviceLaw}
use Rattle.rule_warnings.specs.Limits.{is_always_tracked, is_reject, is_sure, is_tracked, limits_by, may_turn_away, shortage, turns_away}
use Rattle.rule_warnings.specs.declared.warning.Shortage.{Shortage}

on_unsure : (sure rejects later : Bool) → sure ≡ false → later ≡ true → (if sure then rejects else later) ≡ true
on_unsure false rejects later unsure turned = turned
on_unsure true rejects later unsure turned = absurd (false≢true (sym unsure))

turned : (slot : Slot) (before after : List Rule) → AllByRecursion (λ rule. is_sure slot rule ≡ false) before → turns_away slot (before ++ guard slot ∷ after) ≡ true
unfolding is_sure
turned Sc0 [] after unsure = refl
turned Sc1 [] after unsure = refl
turned Sc2 [] after unsure = refl
turned slot (rule ∷ more) after (unsure, none) = on_unsure (is_sure slot rule) (is_reject rule.action) (turns_away slot (more ++ guard slot ∷ after)) unsure (turned slot more after none)

closed : (tracks limits guards others : Bool) (reason : Option Shortage) → guards ≡ true → (if tracks && limits && not (guards || others) then reason else None) ≡ None
closed false limits guards others reason e = refl
closed true false guards others reason e = refl
closed true true true others reason e = refl
closed true true false others reason e = absurd (false≢true e)

pub advice_law : AdviceLaw
advice_law connections shards slot before after named unsure =
    closed
    (is_tracked named.name slot (before ++ guard slot ∷ after))
    (list_any (limits_by slot) (before ++ guard slot ∷ after))
    (turns_away slot (before ++ guard slot ∷ after))
    (not (is_always_tracked named.name slot (before ++ guard slot ∷ after)) && list_any (may_turn_away slot) (before ++ guard slot ∷ after))
    (shortage connections shards (before ++ guard slot ∷ after) named)
    (turned slot before after unsure)
