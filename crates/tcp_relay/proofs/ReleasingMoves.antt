-- What each move makes of what a connection holds, once it ends.
use Rattle.admit_core.proofs.SkippedLemmas.{skipped_leaves}
use Rattle.std.proofs.Common.{subst, ◌≡◌, ◌⊎◌, ◌&&◌, inl, inr, ℕ, refl, sym, ap, ◌∙◌, Bool, true, false, not, List, [], ◌∷◌, slice_get, Option, Some, None, is_some}
use Rattle.std.specs.Option.{option_map}
use Rattle.std.proofs.lemmas.Bool.{false≢true}
use Rattle.stored_data.specs.declared.act.Act.{Act}
use Rattle.rule_model.specs.declared.actions.Slot.{Slot}
use Rattle.rule_model.specs.declared.actions.Slot.TheVariants.{Sc0, Sc1, Sc2}
use Rattle.rule_eval.specs.Left.{is_done}
use Rattle.rule_eval.specs.declared.wants.Want.{Want}
use Rattle.admit_core.specs.Connection.{is_asking, Progress, bytes_of, closing, counted, counting, gave_at, gave_of, is_judged, leaving, need_given, need_in, need_of, phase_after, refused_before, refused_given, refused_of, released_of, skipped, took_given, took_in, took_of}
use Rattle.admit_core.specs.Held.{held_at, held_with, holding}
use Rattle.admit_core.specs.Left.{is_still}
use Rattle.admit_core.specs.declared.held.Held.{Held}
use Rattle.admit_core.specs.declared.need.Need.{Need}
use Rattle.admit_core.specs.declared.need.Need.TheVariants as needs
use Rattle.admit_core.specs.declared.need.Phase.{Phase}
use Rattle.admit_core.specs.declared.need.Phase.TheVariants.{New, Judging, Admitted, Rejected, Ended}
use Rattle.tcp_relay.specs.Releasing.{ends_in}

-- it ends; or it has ended, and holds nothing
pub data IsOver {R : Type 0} (progress : Progress R) : Type 0 where
  ends_yet : ends_in progress.phase progress.bytes ≡ true → IsOver progress
  has_ended : progress.phase ≡ Ended → holding progress.held ≡ [] → IsOver progress

ends_unjudged : (phase : Phase) (bytes : Option (ℕ × ℕ)) → ends_in phase bytes ≡ true → is_judged phase ≡ false
ends_unjudged New bytes is = absurd (false≢true is)
ends_unjudged Judging bytes is = absurd (false≢true is)
ends_unjudged Admitted bytes is = refl
ends_unjudged Rejected bytes is = refl
ends_unjudged Ended bytes is = refl

pub unjudged : {R : Type 0} (progress : Progress R) → IsOver progress → is_judged progress.phase ≡ false
unjudged progress (ends_yet is) = ends_unjudged progress.phase progress.bytes is
unjudged progress (has_ended at none) = ap is_judged at

-- one of the same phase, with the same bytes, that holds as much
pub over_still : {R : Type 0} (progress after : Progress R) → after.phase ≡ progress.phase → after.bytes ≡ progress.bytes → after.held ≡ progress.held → IsOver progress → IsOver after
over_still progress after phase bytes held (ends_yet is) = ends_yet ((λ k. ends_in (phase k) (bytes k)) ∙ is)
over_still progress after phase bytes held (has_ended at none) = has_ended (phase ∙ at) (ap holding held ∙ none)

-- ---- an answer

-- the reference of a slot was released
pub record HasReleased {R : Type 0} (wanted : Need) (progress after : Progress R) : Type 0 where
  pub slot : Slot
  pub entry : ℕ × R
  pub wants : wanted ≡ needs.Release slot
  pub at : held_at progress.held slot ≡ Some entry
  pub is : after ≡ record progress { held = held_with progress.held slot None; given = None }

took_unjudged : {R : Type 0} (phase : Phase) (want : Want) (progress : Progress R) (reference : Option R) → is_judged phase ≡ false → took_in phase want progress reference ≡ counted progress
took_unjudged New want progress reference judged = absurd (false≢true (sym judged))
took_unjudged Judging want progress reference judged = absurd (false≢true (sym judged))
took_unjudged Admitted want progress reference judged = refl
took_unjudged Rejected want progress reference judged = refl
took_unjudged Ended want progress reference judged = refl

-- an act was counted
pub took_counts : {R : Type 0} (want : Want) (progress : Progress R) (reference : Option R) → progress.given ≡ None → is_judged progress.phase ≡ false → took_of want progress reference ≡ counted progress
unfolding took_of
took_counts want progress reference none judged = ap (λ g. took_given g want progress reference) none ∙ took_unjudged progress.phase want progress reference judged

-- or the reference that is to be released is gone
gave_one : {R : Type 0} (slot : Slot) (want : Want) (progress : Progress R) (held : Option (ℕ × R)) → held_at progress.held slot ≡ held → progress.given ≡ None → is_judged progress.phase ≡ false
    → (took_of want (gave_at slot held progress) None ≡ counted progress) ⊎ HasReleased (needs.Release slot) progress (took_of want (gave_at slot held progress) None)
unfolding took_of
gave_one slot want progress None at none judged = inl (took_counts want progress None none judged)
gave_one slot want progress (Some entry) at none judged = inr (record { slot = slot; entry = entry; wants = refl; at = at; is = refl })

pub took_gave : {R : Type 0} (wanted : Need) (want : Want) (progress : Progress R) → progress.given ≡ None → is_judged progress.phase ≡ false
    → (took_of want (gave_of wanted progress) None ≡ counted progress) ⊎ HasReleased wanted progress (took_of want (gave_of wanted progress) None)
took_gave (needs.Release slot) want progress none judged = gave_one slot want progress (held_at progress.held slot) refl none judged
took_gave (needs.Get table key) want progress none judged = inl (took_counts want progress None none judged)
took_gave (needs.Track slot table key) want progress none judged = inl (took_counts want progress None none judged)
took_gave (needs.Look slot) want progress none judged = inl (took_counts want progress None none judged)
took_gave (needs.Count slot act) want progress none judged = inl (took_counts want progress None none judged)
took_gave needs.Turn want progress none judged = inl (took_counts want progress None none judged)
took_gave needs.Rest want progress none judged = inl (took_counts want progress None none judged)
took_gave needs.Finished want progress none judged = inl (took_counts want progress None none judged)

-- ---- a turn

pub turned_ended : (phase : Phase) (want : Want) → is_judged phase ≡ false → phase_after phase want ≡ Ended
turned_ended New want judged = absurd (false≢true (sym judged))
turned_ended Judging want judged = absurd (false≢true (sym judged))
turned_ended Admitted want judged = refl
turned_ended Rejected want judged = refl
turned_ended Ended want judged = refl

-- ---- a refusal

-- nothing is asked any more
asks_none : (judged rest : Bool) → judged ≡ false → (judged && rest) ≡ false
asks_none false rest is = refl
asks_none true rest is = absurd (false≢true (sym is))

pub refused_skips : {R : Type 0} (want : Want) (progress : Progress R) → progress.given ≡ None → is_judged progress.phase ≡ false → refused_of want progress None ≡ skipped (need_of want progress) progress
unfolding refused_of
refused_skips want progress none judged =
    ap (λ g. refused_given g want progress None) none ∙ ap (λ asking. refused_before asking (need_of want progress) progress) (asks_none (is_judged progress.phase) (not (is_done want)) judged)

-- ---- a release that is refused

-- a reference that was handed out is there again
with_again : {R : Type 0} (held : Held R) (slot other : Slot) (entry : ℕ × R) → held_at held slot ≡ Some entry → held_at (held_with (held_with held slot None) slot (Some entry)) other ≡ held_at held other
with_again held Sc0 Sc0 entry at = sym at
with_again held Sc0 Sc1 entry at = refl
with_again held Sc0 Sc2 entry at = refl
with_again held Sc1 Sc0 entry at = refl
with_again held Sc1 Sc1 entry at = sym at
with_again held Sc1 Sc2 entry at = refl
with_again held Sc2 Sc0 entry at = refl
with_again held Sc2 Sc1 entry at = refl
with_again held Sc2 Sc2 entry at = sym at

-- the release of the reference of a slot was wanted, and each slot holds what it held
pub record HoldsAgain {R : Type 0} (wanted : Need) (progress after : Progress R) : Type 0 where
  pub slot : Slot
  pub entry : ℕ × R
  pub wants : wanted ≡ needs.Release slot
  pub at : held_at progress.held slot ≡ Some entry
  pub each : (other : Slot) → held_at after.held other ≡ held_at progress.held other
  pub given : after.given ≡ None
  pub phase : after.phase ≡ progress.phase
  pub bytes : after.bytes ≡ progress.bytes

-- as a slot hands it out
abbrev released_at : {R : Type 0} → Option (ℕ × R) → Option R
released_at held = option_map (λ entry. entry.1) held

none_some : {X : Type 0} (x : X) → None ≡ Some x → ⊥
none_some x e = cc

again_one : {R : Type 0} (slot : Slot) (want : Want) (progress : Progress R) (reference : R) (held : Option (ℕ × R)) → held_at progress.held slot ≡ held → released_at held ≡ Some reference
    → HoldsAgain (needs.Release slot) progress (refused_of want (gave_at slot held progress) (Some reference))
unfolding refused_of
again_one slot want progress reference None at is = absurd (none_some reference is)
again_one slot want progress reference (Some entry) at is =
    let its : entry.1 ≡ reference = cc (is) in
    record {
      slot = slot;
      entry = entry;
      wants = refl;
      at = at;
      each = λ other. ap (λ r. held_at (held_with (held_with progress.held slot None) slot (Some (entry.0, r))) other) (sym its) ∙ with_again progress.held slot other entry at;
      given = refl;
      phase = refl;
      bytes = refl;
    }

pub refused_holds : {R : Type 0} (wanted : Need) (want : Want) (progress : Progress R) (reference : R) → released_of wanted progress ≡ Some reference → HoldsAgain wanted progress (refused_of want (gave_of wanted progress) (Some reference))
refused_holds (needs.Release slot) want progress reference is = again_one slot want progress reference (held_at progress.held slot) refl is
refused_holds (needs.Get table key) want progress reference is = absurd (none_some reference is)
refused_holds (needs.Track slot table key) want progress reference is = absurd (none_some reference is)
refused_holds (needs.Look slot) want progress reference is = absurd (none_some reference is)
refused_holds (needs.Count slot act) want progress reference is = absurd (none_some reference is)
refused_holds needs.Turn want progress reference is = absurd (none_some reference is)
refused_holds needs.Rest want progress reference is = absurd (none_some reference is)
refused_holds needs.Finished want progress reference is = absurd (none_some reference is)

-- ---- once it stands still

leaves_on : (slots : List Slot) → is_still (leaving slots) ≡ false
leaves_on [] = refl
leaves_on (slot ∷ more) = refl

counts_on : (act : Option (Slot × Act)) (slots : List Slot) → is_still (counting act (leaving slots)) ≡ false
counts_on None slots = leaves_on slots
counts_on (Some entry) slots = refl

ends_on : {R : Type 0} (phase : Phase) (want : Want) (progress : Progress R) → ends_in phase progress.bytes ≡ true → is_still (need_in phase want progress) ≡ false
ends_on New want progress is = absurd (false≢true is)
ends_on Judging want progress is = absurd (false≢true is)
ends_on Rejected want progress is = leaves_on (holding progress.held)
ends_on Ended want progress is = absurd (false≢true is)
ends_on {R = R} Admitted want progress is = by progress.bytes refl is
  where
    by : (bytes : Option (ℕ × ℕ)) → progress.bytes ≡ bytes → is_some bytes ≡ true → is_still (need_in Admitted want progress) ≡ false
    by None at some = absurd (false≢true some)
    by (Some bytes) at some = ap (λ b. is_still (closing b progress)) at ∙ counts_on (slice_get (bytes_of bytes.0 bytes.1 (holding progress.held)) progress.counted) (holding progress.held)

-- it holds nothing
pub none_held : {R : Type 0} (x y z : Option (ℕ × R)) (slot : Slot) → holding (record { sc0 = x; sc1 = y; sc2 = z }) ≡ [] → held_at (record { sc0 = x; sc1 = y; sc2 = z }) slot ≡ None
none_held (Some entry) y z slot none = cc
none_held None (Some entry) z slot none = cc
none_held None None (Some entry) slot none = cc
none_held None None None Sc0 none = refl
none_held None None None Sc1 none = refl
none_held None None None Sc2 none = refl

pub still_none : {R : Type 0} (want : Want) (progress : Progress R) → progress.given ≡ None → IsOver progress → is_still (need_of want progress) ≡ true → (slot : Slot) → held_at progress.held slot ≡ None
unfolding need_of
still_none want progress none (ends_yet is) still slot =
    absurd (false≢true (sym (ap (λ g. is_still (need_given g want progress)) none ∙ ends_on progress.phase want progress is) ∙ still))
still_none want progress none (has_ended at empty) still slot = none_held progress.held.sc0 progress.held.sc1 progress.held.sc2 slot empty
