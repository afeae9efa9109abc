-- How often a connection holds a reference, as one slot changes.
use Rattle.std.proofs.Common.{◌≡◌, ℕ, ◌+◌, ◌≤◌, refl, sym, ap, ◌∙◌, arith, Bool, true, false, Option, Some, None, is_some, List, [], ◌∷◌, slice_get}
use Rattle.std.proofs.lemmas.Bool.{false≢true}
use Rattle.stored_data.specs.declared.act.Act.{Act}
use Rattle.rule_model.specs.declared.actions.Slot.{Slot}
use Rattle.rule_model.specs.declared.actions.Slot.TheVariants.{Sc0, Sc1, Sc2}
use Rattle.rule_eval.specs.declared.wants.Want.{Want}
use Rattle.rule_eval.specs.declared.wants.Want.TheVariants as wants
use Rattle.rule_eval.specs.declared.wants.Verdict.TheVariants.{Accept, Reject}
use Rattle.admit_core.specs.Connection.{Progress, bytes_of, closing, counting, gave_at, gave_of, heard as heard_by, is_asking, is_judged, judging, leaving, need_given, need_in, need_of, refused_before, refused_given, refused_of, skipped, took_given, took_in, took_of}
use Rattle.admit_core.specs.Held.{held_at, held_with, holding}
use Rattle.admit_core.specs.declared.held.Held.{Held}
use Rattle.admit_core.specs.declared.need.Need.{Need}
use Rattle.admit_core.specs.declared.need.Need.TheVariants as needs
use Rattle.admit_core.specs.declared.need.Phase.{Phase}
use Rattle.admit_core.specs.declared.need.Phase.TheVariants.{New, Judging, Admitted, Rejected, Ended}
use Rattle.admit_drive.specs.Balance.{times_by, times_in}
use Rattle.shard_port.specs.declared.reference.Reference.{Reference}
use Rattle.admit_core.proofs.SkippedLemmas.{skipped_leaves}

-- one slot holds another reference, or none
pub times_with : (reference : ℕ × Reference) (held : Held Reference) (slot : Slot) (entry : Option (ℕ × Reference))
    → times_by reference (held_with held slot entry) + times_in reference (held_at held slot) ≡ times_by reference held + times_in reference entry
times_with reference held Sc0 entry = omega arith
times_with reference held Sc1 entry = omega arith
times_with reference held Sc2 entry = omega arith

-- what a slot holds is held
pub times_at : (reference : ℕ × Reference) (held : Held Reference) (slot : Slot) → times_in reference (held_at held slot) ≤ times_by reference held
times_at reference held Sc0 = omega arith
times_at reference held Sc1 = omega arith
times_at reference held Sc2 = omega arith

-- ---- which need comes from where

no_track : (slots : List Slot) (slot : Slot) (table : ℕ) (key : List ℕ) → leaving slots ≡ needs.Track slot table key → ⊥
no_track [] slot table key is = cc
no_track (first ∷ more) slot table key is = cc

counts_no_track : (act : Option (Slot × Act)) (other : Need) (slot : Slot) (table : ℕ) (key : List ℕ) → counting act other ≡ needs.Track slot table key → other ≡ needs.Track slot table key
counts_no_track None other slot table key is = is
counts_no_track (Some entry) other slot table key is = cc

-- a track is wanted by the rules
track_judged : {R : Type 0} (want : Want) (progress : Progress R) (slot : Slot) (table : ℕ) (key : List ℕ) → judging want progress ≡ needs.Track slot table key → want ≡ wants.Track slot table key
track_judged (wants.Track s t k) progress slot table key is = cc
track_judged (wants.Get t k) progress slot table key is = cc
track_judged (wants.Look s) progress slot table key is = cc
track_judged (wants.Count s a) progress slot table key is = cc
track_judged (wants.Done Accept) progress slot table key is = absurd (let turn : needs.Turn ≡ needs.Track slot table key = counts_no_track _ needs.Turn slot table key is in cc)
track_judged (wants.Done Reject) progress slot table key is = cc

track_closed : {R : Type 0} (progress : Progress R) (bytes : Option (ℕ × ℕ)) (slot : Slot) (table : ℕ) (key : List ℕ) → closing bytes progress ≡ needs.Track slot table key → ⊥
track_closed progress None slot table key is = cc
track_closed progress (Some bytes) slot table key is =
    no_track (holding progress.held) slot table key (counts_no_track (slice_get (bytes_of bytes.0 bytes.1 (holding progress.held)) progress.counted) (leaving (holding progress.held)) slot table key is)

pub track_in : {R : Type 0} (phase : Phase) (want : Want) (progress : Progress R) (slot : Slot) (table : ℕ) (key : List ℕ) → need_in phase want progress ≡ needs.Track slot table key → (is_judged phase ≡ true) × (want ≡ wants.Track slot table key)
track_in New want progress slot table key is = (refl, track_judged want progress slot table key is)
track_in Judging want progress slot table key is = (refl, track_judged want progress slot table key is)
track_in Admitted want progress slot table key is = absurd (track_closed progress progress.bytes slot table key is)
track_in Rejected want progress slot table key is = absurd (no_track (holding progress.held) slot table key is)
track_in Ended want progress slot table key is = cc

-- ---- what is held after an answer

heard_none : {R : Type 0} (want : Want) (progress : Progress R) → (heard_by want progress None).held ≡ progress.held
heard_none (wants.Get t k) progress = refl
heard_none (wants.Track s t k) progress = refl
heard_none (wants.Look s) progress = refl
heard_none (wants.Count s a) progress = refl
heard_none (wants.Done v) progress = refl

took_none : {R : Type 0} (phase : Phase) (want : Want) (progress : Progress R) → (took_in phase want progress None).held ≡ progress.held
took_none New want progress = heard_none want progress
took_none Judging want progress = heard_none want progress
took_none Admitted want progress = refl
took_none Rejected want progress = refl
took_none Ended want progress = refl

heard_given : {R : Type 0} (want : Want) (progress : Progress R) (reference : Option R) → (heard_by want progress reference).given ≡ progress.given
heard_given (wants.Get t k) progress reference = refl
heard_given (wants.Track s t k) progress reference = refl
heard_given (wants.Look s) progress reference = refl
heard_given (wants.Count s a) progress reference = refl
heard_given (wants.Done v) progress reference = refl

took_given_same : {R : Type 0} (phase : Phase) (want : Want) (progress : Progress R) (reference : Option R) → (took_in phase want progress reference).given ≡ progress.given
took_given_same New want progress reference = heard_given want progress reference
took_given_same Judging want progress reference = heard_given want progress reference
took_given_same Admitted want progress reference = refl
took_given_same Rejected want progress reference = refl
took_given_same Ended want progress reference = refl

-- nothing is handed out, and no reference comes
pub took_nothing : {R : Type 0} (want : Want) (progress : Progress R) → progress.given ≡ None → ((took_of want progress None).held ≡ progress.held) × ((took_of want progress None).given ≡ None)
unfolding took_of
took_nothing want progress none =
    let free : took_of want progress None ≡ took_in progress.phase want progress None = ap (λ g. took_given g want progress None) none in (
      ap (λ (p : Progress _). p.held) free ∙ took_none progress.phase want progress,
      ap (λ (p : Progress _). p.given) free ∙ took_given_same progress.phase want progress None ∙ none,
    )

-- a reference comes that the rules asked for
tracked_in : {R : Type 0} (phase : Phase) (want : Want) (progress : Progress R) (slot : Slot) (table : ℕ) (key : List ℕ) (reference : R) → is_judged phase ≡ true → want ≡ wants.Track slot table key
    → (took_in phase want progress (Some reference)).held ≡ held_with progress.held slot (Some (table, reference))
tracked_in New want progress slot table key reference judged is = ap (λ w. (heard_by w progress (Some reference)).held) is
tracked_in Judging want progress slot table key reference judged is = ap (λ w. (heard_by w progress (Some reference)).held) is
tracked_in Admitted want progress slot table key reference judged is = absurd (false≢true judged)
tracked_in Rejected want progress slot table key reference judged is = absurd (false≢true judged)
tracked_in Ended want progress slot table key reference judged is = absurd (false≢true judged)

pub took_tracked : {R : Type 0} (want : Want) (progress : Progress R) (slot : Slot) (table : ℕ) (key : List ℕ) (reference : R) → progress.given ≡ None → need_of want progress ≡ needs.Track slot table key
    → ((took_of want progress (Some reference)).held ≡ held_with progress.held slot (Some (table, reference))) × ((took_of want progress (Some reference)).given ≡ None)
unfolding took_of need_of
took_tracked want progress slot table key reference none is =
    let free : took_of want progress (Some reference) ≡ took_in progress.phase want progress (Some reference) = ap (λ g. took_given g want progress (Some reference)) none in
    let wants_it = track_in progress.phase want progress slot table key (sym (ap (λ g. need_given g want progress) none) ∙ is) in (
      ap (λ (p : Progress _). p.held) free ∙ tracked_in progress.phase want progress slot table key reference wants_it.0 wants_it.1,
      ap (λ (p : Progress _). p.given) free ∙ took_given_same progress.phase want progress (Some reference) ∙ none,
    )

-- ---- what is held after a release

gave_some : {R : Type 0} (slot : Slot) (progress : Progress R) (out : Option (ℕ × R)) (want : Want) → out ≡ held_at progress.held slot → is_some out ≡ true
    → (((took_of want (gave_at slot out progress) None).held ≡ held_with progress.held slot None) × ((took_of want (gave_at slot out progress) None).given ≡ None))
unfolding took_of
gave_some slot progress None want is some = absurd (false≢true some)
gave_some slot progress (Some entry) want is some = (refl, refl)

pub gave_back : {R : Type 0} (want : Want) (progress : Progress R) (slot : Slot) → is_some (held_at progress.held slot) ≡ true
    → ((took_of want (gave_of (needs.Release slot) progress) None).held ≡ held_with progress.held slot None) × ((took_of want (gave_of (needs.Release slot) progress) None).given ≡ None)
gave_back want progress slot some = gave_some slot progress (held_at progress.held slot) want refl some

-- ---- what is held after a refusal

skipped_same : {R : Type 0} (wanted : Need) (progress : Progress R) → ((skipped wanted progress).held ≡ progress.held) × ((skipped wanted progress).given ≡ progress.given)
skipped_same wanted progress = let same = skipped_leaves wanted progress in (ap (λ (p : Progress _). p.held) same, ap (λ (p : Progress _). p.given) same)

before_same : {R : Type 0} (asking : Bool) (wanted : Need) (progress : Progress R) → ((refused_before asking wanted progress).held ≡ progress.held) × ((refused_before asking wanted progress).given ≡ progress.given)
before_same true wanted progress = (refl, refl)
before_same false wanted progress = skipped_same wanted progress

pub refused_same : {R : Type 0} (want : Want) (progress : Progress R) → progress.given ≡ None → ((refused_of want progress None).held ≡ progress.held) × ((refused_of want progress None).given ≡ None)
unfolding refused_of
refused_same want progress none =
    let free : refused_of want progress None ≡ refused_before (is_asking want progress) (need_of want progress) progress = ap (λ g. refused_given g want progress None) none in
    let same = before_same (is_asking want progress) (need_of want progress) progress in (
      ap (λ (p : Progress _). p.held) free ∙ same.0,
      ap (λ (p : Progress _). p.given) free ∙ same.1 ∙ none,
    )
