-- How much an evaluation can still ask: a criterion or an action is asked once at most.
use Rattle.std.specs.Prelude.{ℕ, ◌+◌, Bool, true, false, List, [], ◌∷◌, length, Option, Some, None}
use Rattle.rule_model.specs.declared.rules.Rule.{Rule}
use Rattle.rule_model.specs.declared.rules.Term.{Term}
use Rattle.rule_eval.specs.declared.scan.Place.{Place}
use Rattle.rule_eval.specs.declared.scan.Point.{Point}
use Rattle.rule_eval.specs.declared.scan.Point.TheVariants as points
use Rattle.rule_eval.specs.declared.scan.Scan.{Scan}
use Rattle.rule_eval.specs.declared.scan.Scan.TheVariants as scans
use Rattle.rule_eval.specs.declared.wants.Want.{Want}
use Rattle.rule_eval.specs.declared.wants.Want.TheVariants.{Done}

-- the criteria of terms, of a condition, and of rules with their actions
abbrev pub criteria_in : List Term → ℕ
criteria_in [] = 0
criteria_in (term ∷ more) = length term.criteria + criteria_in more

abbrev pub criteria_of : List (List Term) → ℕ
criteria_of [] = 0
criteria_of (terms ∷ more) = criteria_in terms + criteria_of more

abbrev pub condition_size : Option (List (List Term)) → ℕ
condition_size None = 0
condition_size (Some conjunctions) = criteria_of conjunctions

abbrev pub rules_size : List Rule → ℕ
rules_size [] = 0
rules_size (rule ∷ more) = condition_size rule.condition + (1 + rules_size more)

-- whether a want is the verdict
abbrev pub is_done : Want → Bool
is_done (Done verdict) = true
is_done want = false

-- what follows in a condition
abbrev pub place_left : Place → ℕ
place_left place = length place.criteria.now + (criteria_in place.terms.now + criteria_of place.conjunctions.now)

abbrev pub scan_left : Scan → ℕ
scan_left (scans.Asks question place) = 1 + place_left place
scan_left (scans.Is holds) = 0

abbrev pub point_left : Point → ℕ
point_left (points.Condition question place rule rules) = 1 + place_left place + (1 + rules_size rules.now)
point_left (points.Action request rules) = 1 + rules_size rules.now
point_left (points.Done verdict) = 0
