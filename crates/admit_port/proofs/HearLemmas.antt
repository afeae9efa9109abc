-- What a connection has left, and what it holds, once it hears of what it wanted.
use Rattle.std.proofs.Common.{◌≡◌, ℕ, ◌+◌, ◌≤◌, ◌<◌, sym, ap, subst, ◌∙◌, arith, Bool, true, false, Option, Some, None, is_some}
use Rattle.std.specs.Option.{option_map}
use Rattle.std.proofs.lemmas.Bool.{false≢true}
use Rattle.rule_model.specs.declared.actions.Slot.{Slot}
use Rattle.rule_model.specs.declared.actions.Slot.TheVariants.{Sc0, Sc1, Sc2}
use Rattle.rule_eval.specs.declared.wants.Answer.{Answer}
use Rattle.rule_eval.specs.declared.wants.Answer.TheVariants as answers
use Rattle.rule_eval.specs.declared.wants.Want.{Want}
use Rattle.rule_eval.specs.declared.wants.Want.TheVariants as wants
use Rattle.admit_core.specs.Conn.{needed, progress_of, rules_left, wanted}
use Rattle.admit_core.specs.Connection.{Progress, answers_need, gave_at, gave_of, heard, is_asking, is_event, is_release, judging, need_given, need_in, need_of, refused_before, refused_given, refused_of, released_of, skipped, took_given, took_in, took_of, turned_of}
use Rattle.admit_core.specs.Held.{held_at, held_with}
use Rattle.admit_core.specs.Left.{left_of, phase_left}
use Rattle.admit_core.specs.declared.conn.Conn.{Conn}
use Rattle.admit_core.specs.declared.held.Held.{Held}
use Rattle.admit_core.specs.declared.need.Need.{Need}
use Rattle.admit_core.specs.declared.need.Need.TheVariants as needs
use Rattle.admit_core.specs.declared.need.Phase.{Phase}
use Rattle.admit_core.specs.declared.need.Phase.TheVariants.{New, Judging, Admitted, Rejected, Ended}
use Rattle.admit_core.proofs.LeftLemmas.{gave_less, refused_less, took_less, turned_less}
use Rattle.admit_core.proofs.SkippedLemmas.{skipped_leaves}
use Rattle.admit_port.proofs.CommonLemmas.{none_out}
use Rattle.admit_port.specs.DriveCode.{moves_left}
use Rattle.admit_port.specs.Ports.{HoldsOf, NamesOf}

-- ---- what is left

not_released : {R : Type 0} → (wants_it : Need) (answer : Answer) (reference : Option R) → answers_need wants_it answer reference ≡ true → is_release wants_it ≡ false → answer ≡ answers.Released → ⊥
not_released (needs.Release s) answer reference fits bare is = false≢true (sym bare)
not_released (needs.Get t k) answer reference fits bare is = false≢true (subst (λ a. answers_need (needs.Get t k) a reference ≡ true) is fits)
not_released (needs.Track s t k) answer reference fits bare is = false≢true (subst (λ a. answers_need (needs.Track s t k) a reference ≡ true) is fits)
not_released (needs.Look s) answer reference fits bare is = false≢true (subst (λ a. answers_need (needs.Look s) a reference ≡ true) is fits)
not_released (needs.Count s a) answer reference fits bare is = false≢true (subst (λ b. answers_need (needs.Count s a) b reference ≡ true) is fits)
not_released needs.Rest answer reference fits bare is = false≢true (subst (λ a. answers_need needs.Rest a reference ≡ true) is fits)
not_released needs.Turn answer reference fits bare is = false≢true (subst (λ a. answers_need needs.Turn a reference ≡ true) is fits)
not_released needs.Finished answer reference fits bare is = false≢true (subst (λ a. answers_need needs.Finished a reference ≡ true) is fits)

pub taken_left : {R : Type 0} → (old new : Conn R) (answer : Answer) (reference : Option R) → answers_need (needed old) answer reference ≡ true → is_release (needed old) ≡ false → is_some (progress_of old).given ≡ false
    → progress_of new ≡ took_of (wanted old) (progress_of old) reference → (is_asking (wanted old) (progress_of old) ≡ true → rules_left new + 1 ≤ rules_left old) → rules_left new ≤ rules_left old → moves_left new + 1 ≤ moves_left old
taken_left old new answer reference fits bare none progress asked less =
    subst (λ p. left_of (rules_left new) p + 1 ≤ moves_left old) (sym progress)
    (took_less (wanted old) (progress_of old) answer reference (rules_left old) (rules_left new) (none_out (progress_of old).given none) fits (not_released (needed old) answer reference fits bare) asked less)

pub skipped_left : {R : Type 0} → (old new : Conn R) → is_event (needed old) ≡ true → is_release (needed old) ≡ false → is_some (progress_of old).given ≡ false → progress_of new ≡ refused_of (wanted old) (progress_of old) None → rules_left new ≡ rules_left old
    → moves_left new + 1 ≤ moves_left old
skipped_left old new event bare none progress same =
    subst (λ p. left_of (rules_left new) p + 1 ≤ moves_left old) (sym progress) (refused_less (wanted old) (progress_of old) (rules_left old) (rules_left new) (none_out (progress_of old).given none) event bare same)

-- ---- what is held

same_entry : {R : Type 0} → (a b : ℕ × R) → Some a ≡ Some b → a ≡ b
same_entry a b e = cc

with_holds : {R : Type 0} → (ports : ℕ) (held : Held R) (slot : Slot) (entry : ℕ × R) → entry.0 < ports → HoldsOf ports held → HoldsOf ports (held_with held slot (Some entry))
with_holds {R = R} ports held Sc0 entry less holds Sc0 other is = subst (λ (e : ℕ × R). e.0 < ports) (same_entry entry other is) less
with_holds {R = R} ports held Sc0 entry less holds Sc1 other is = holds Sc1 other is
with_holds {R = R} ports held Sc0 entry less holds Sc2 other is = holds Sc2 other is
with_holds {R = R} ports held Sc1 entry less holds Sc0 other is = holds Sc0 other is
with_holds {R = R} ports held Sc1 entry less holds Sc1 other is = subst (λ (e : ℕ × R). e.0 < ports) (same_entry entry other is) less
with_holds {R = R} ports held Sc1 entry less holds Sc2 other is = holds Sc2 other is
with_holds {R = R} ports held Sc2 entry less holds Sc0 other is = holds Sc0 other is
with_holds {R = R} ports held Sc2 entry less holds Sc1 other is = holds Sc1 other is
with_holds {R = R} ports held Sc2 entry less holds Sc2 other is = subst (λ (e : ℕ × R). e.0 < ports) (same_entry entry other is) less

module _ {R : Type 0} (ports : ℕ) (progress : Progress R) (holds : HoldsOf ports progress.held) where
  heard_holds : (want : Want) (reference : Option R) → NamesOf ports (judging want progress) → HoldsOf ports (heard want progress reference).held
  heard_holds (wants.Track slot table key) (Some reference) names = with_holds ports progress.held slot (table, reference) names holds
  heard_holds (wants.Track slot table key) None names = holds
  heard_holds (wants.Get table key) reference names = holds
  heard_holds (wants.Look slot) reference names = holds
  heard_holds (wants.Count slot act) reference names = holds
  heard_holds (wants.Done verdict) reference names = holds

  took_in_holds : (phase : Phase) (want : Want) (reference : Option R) → NamesOf ports (need_in phase want progress) → HoldsOf ports (took_in phase want progress reference).held
  took_in_holds New want reference names = heard_holds want reference names
  took_in_holds Judging want reference names = heard_holds want reference names
  took_in_holds Admitted want reference names = holds
  took_in_holds Rejected want reference names = holds
  took_in_holds Ended want reference names = holds

  took_holds : (want : Want) (reference : Option R) → progress.given ≡ None → NamesOf ports (need_of want progress) → HoldsOf ports (took_of want progress reference).held
  unfolding took_of need_of
  took_holds want reference none names =
      subst (λ (p : Progress R). HoldsOf ports p.held) (sym (ap (λ g. took_given g want progress reference) none))
      (took_in_holds progress.phase want reference (subst (λ (n : Need). NamesOf ports n) (ap (λ g. need_given g want progress) none) names))

  skipped_holds : (need : Need) → HoldsOf ports (skipped need progress).held
  skipped_holds need = subst (λ (p : Progress R). HoldsOf ports p.held) (sym (skipped_leaves need progress)) holds

  before_holds : (asks : Bool) (need : Need) → HoldsOf ports (refused_before asks need progress).held
  before_holds true need = holds
  before_holds false need = skipped_holds need

  refused_holds : (want : Want) → progress.given ≡ None → HoldsOf ports (refused_of want progress None).held
  unfolding refused_of
  refused_holds want none = subst (λ (p : Progress R). HoldsOf ports p.held) (sym (ap (λ g. refused_given g want progress None) none)) (before_holds (is_asking want progress) (need_of want progress))

pub taken_holds : {R : Type 0} → (old new : Conn R) (reference : Option R) (ports : ℕ) → is_some (progress_of old).given ≡ false → progress_of new ≡ took_of (wanted old) (progress_of old) reference
    → HoldsOf ports (progress_of old).held → NamesOf ports (needed old) → HoldsOf ports (progress_of new).held
taken_holds {R = R} old new reference ports none progress holds names =
    subst (λ (p : Progress R). HoldsOf ports p.held) (sym progress) (took_holds ports (progress_of old) holds (wanted old) reference (none_out (progress_of old).given none) names)

pub refusal_holds : {R : Type 0} → (old new : Conn R) (ports : ℕ) → is_some (progress_of old).given ≡ false → progress_of new ≡ refused_of (wanted old) (progress_of old) None → HoldsOf ports (progress_of old).held → HoldsOf ports (progress_of new).held
refusal_holds {R = R} old new ports none progress holds =
    subst (λ (p : Progress R). HoldsOf ports p.held) (sym progress) (refused_holds ports (progress_of old) holds (wanted old) (none_out (progress_of old).given none))

-- ---- a reference that is given back

same_reference : {R : Type 0} → (a b : R) → Some a ≡ Some b → a ≡ b
same_reference a b e = cc

less_rules : {R : Type 0} → (phase : Phase) (progress : Progress R) (rules later : ℕ) → later ≤ rules → phase_left phase later progress ≤ phase_left phase rules progress
less_rules New progress rules later less = omega (arith, less)
less_rules Judging progress rules later less = omega (arith, less)
less_rules Admitted progress rules later less = omega arith
less_rules Rejected progress rules later less = omega arith
less_rules Ended progress rules later less = omega arith

without_holds : {R : Type 0} → (ports : ℕ) (held : Held R) (slot : Slot) → HoldsOf ports held → HoldsOf ports (held_with held slot None)
without_holds ports held Sc0 holds Sc0 other is = cc
without_holds ports held Sc0 holds Sc1 other is = holds Sc1 other is
without_holds ports held Sc0 holds Sc2 other is = holds Sc2 other is
without_holds ports held Sc1 holds Sc0 other is = holds Sc0 other is
without_holds ports held Sc1 holds Sc1 other is = cc
without_holds ports held Sc1 holds Sc2 other is = holds Sc2 other is
without_holds ports held Sc2 holds Sc0 other is = holds Sc0 other is
without_holds ports held Sc2 holds Sc1 other is = holds Sc1 other is
without_holds ports held Sc2 holds Sc2 other is = cc

-- a connection that hands out the reference of a slot
module _ {R : Type 0} (old given : Conn R) (slot : Slot) (table : ℕ) (reference : R) (wants_it : needed old ≡ needs.Release slot) (holds : Some (table, reference) ≡ held_at (progress_of old).held slot)
    (gave : progress_of given ≡ gave_of (needed old) (progress_of old)) where
  gave_is : progress_of given ≡ record (progress_of old) { held = held_with (progress_of old).held slot None; given = Some (slot, table) }
  gave_is = gave ∙ ap (λ w. gave_of w (progress_of old)) wants_it ∙ ap (λ o. gave_at slot o (progress_of old)) (sym holds)

  -- what is handed out is what the slot held
  pub handed_out : (out : R) → released_of (needed old) (progress_of old) ≡ Some out → Some (table, out) ≡ held_at (progress_of old).held slot
  handed_out out released =
      let same : Some reference ≡ Some out = ap (λ o. option_map (λ (e : ℕ × R). e.1) o) holds ∙ sym (ap (λ w. released_of w (progress_of old)) wants_it) ∙ released in
      ap (λ r. Some (table, r)) (sym (same_reference reference out same)) ∙ holds

  -- its release is answered
  pub released_holds : (ports : ℕ) (new : Conn R) → HoldsOf ports (progress_of old).held → progress_of new ≡ took_of (wanted given) (progress_of given) None → HoldsOf ports (progress_of new).held
  unfolding took_of
  released_holds ports new before took_it =
      subst (λ (p : Progress R). HoldsOf ports p.held) (sym (took_it ∙ ap (λ p. took_of (wanted given) p None) gave_is)) (without_holds ports (progress_of old).held slot before)

  pub released_left : (new : Conn R) → is_some (progress_of old).given ≡ false → rules_left given ≡ rules_left old → rules_left new ≤ rules_left given → progress_of new ≡ took_of (wanted given) (progress_of given) None → moves_left new + 1 ≤ moves_left old
  unfolding took_of
  released_left new none kept less took_it =
      let same : progress_of new ≡ took_of (wanted old) (gave_of (needs.Release slot) (progress_of old)) None =
      took_it ∙ ap (λ p. took_of (wanted given) p None) gave_is ∙ ap (λ o. took_of (wanted old) (gave_at slot o (progress_of old)) None) holds in
      let down = gave_less (wanted old) (progress_of old) slot (table, reference) (rules_left old) (none_out (progress_of old).given none) wants_it (sym holds) in
      let at : left_of (rules_left new) (progress_of new) ≤ left_of (rules_left old) (progress_of new) = less_rules (progress_of new).phase (progress_of new) (rules_left old) (rules_left new) (omega (arith, less, kept)) in
      let now : left_of (rules_left old) (progress_of new) + 1 ≤ moves_left old = subst (λ p. left_of (rules_left old) p + 1 ≤ moves_left old) (sym same) down in
      omega (arith, at, now)

  -- its release is refused
  pub kept_holds : (ports : ℕ) (new : Conn R) (back : R) → HoldsOf ports (progress_of old).held → table < ports → progress_of new ≡ refused_of (wanted given) (progress_of given) (Some back) → HoldsOf ports (progress_of new).held
  unfolding refused_of
  kept_holds ports new back before within refused_it =
      subst (λ (p : Progress R). HoldsOf ports p.held) (sym (refused_it ∙ ap (λ p. refused_of (wanted given) p (Some back)) gave_is))
      (with_holds ports (held_with (progress_of old).held slot None) slot (table, back) within (without_holds ports (progress_of old).held slot before))

-- ---- a turn

pub turned_holds : {R : Type 0} → (old new : Conn R) (ports : ℕ) → progress_of new ≡ turned_of (wanted old) (progress_of old) → HoldsOf ports (progress_of old).held → HoldsOf ports (progress_of new).held
turned_holds {R = R} old new ports progress holds = subst (λ (p : Progress R). HoldsOf ports p.held) (sym progress) holds

pub turned_left : {R : Type 0} → (old new : Conn R) → is_some (progress_of old).given ≡ false → needed old ≡ needs.Turn → progress_of new ≡ turned_of (wanted old) (progress_of old) → rules_left new ≡ rules_left old → moves_left new + 1 ≤ moves_left old
turned_left old new none turn progress same =
    subst (λ p. left_of (rules_left new) p + 1 ≤ moves_left old) (sym progress) (turned_less (wanted old) (progress_of old) (rules_left old) (rules_left new) (none_out (progress_of old).given none) turn same)
