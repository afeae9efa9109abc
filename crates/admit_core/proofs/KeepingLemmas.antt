-- What a connection holds stays, but where it is handed out.
use Rattle.std.proofs.Common.{◌≡◌, ◌∙◌, ◌⊎◌, inl, inr, ℕ, Bool, true, false, not, Option, Some, None, is_some, refl, sym, ap}
use Rattle.std.proofs.lemmas.Bool.{false≢true}
use Rattle.rule_model.specs.declared.actions.Slot.{Slot}
use Rattle.rule_model.specs.declared.actions.Slot.TheVariants.{Sc0, Sc1, Sc2}
use Rattle.rule_eval.specs.declared.wants.Want.{Want}
use Rattle.rule_eval.specs.declared.wants.Want.TheVariants as wants
use Rattle.admit_core.specs.Connection.{Progress, asks, gave_at, gave_of, heard, is_asking, judging, need, need_given, need_in, need_of, refused_before, refused_given, refused_of, skipped, took_given, took_in, took_of, wants_held}
use Rattle.admit_core.specs.Held.{held_at, held_with, is_free_for}
use Rattle.admit_core.specs.History.{answered, was_refused, turns, closes, gives, HeldLaw}
use Rattle.admit_core.specs.declared.held.Held.{Held}
use Rattle.admit_core.specs.declared.need.Need.{Need}
use Rattle.admit_core.specs.declared.need.Need.TheVariants as needs
use Rattle.admit_core.specs.declared.need.Phase.{Phase}
use Rattle.admit_core.specs.declared.need.Phase.TheVariants.{New, Judging, Admitted, Rejected, Ended}
use Rattle.admit_core.proofs.SkippedLemmas.{skipped_leaves}

stays_at : {R : Type 0} (held : Held R) (s t : Slot) (entry : Option (ℕ × R)) → (held_at (held_with held s entry) t ≡ held_at held t) ⊎ (s ≡ t)
stays_at held Sc0 Sc0 entry = inr refl
stays_at held Sc0 Sc1 entry = inl refl
stays_at held Sc0 Sc2 entry = inl refl
stays_at held Sc1 Sc0 entry = inl refl
stays_at held Sc1 Sc1 entry = inr refl
stays_at held Sc1 Sc2 entry = inl refl
stays_at held Sc2 Sc0 entry = inl refl
stays_at held Sc2 Sc1 entry = inl refl
stays_at held Sc2 Sc2 entry = inr refl

-- an empty slot isn't another one that holds a reference
stays_put : {R : Type 0} (held : Held R) (s t : Slot) (new : Option (ℕ × R)) (entry : ℕ × R) → is_some (held_at held s) ≡ false → held_at held t ≡ Some entry → held_at (held_with held s new) t ≡ Some entry
stays_put held s t new entry empty here = elim (stays_at held s t new) [
  | inl same ↦ same ∙ here
  | inr same ↦ absurd (false≢true (sym empty ∙ ap (λ slot. is_some (held_at held slot)) same ∙ ap is_some here))
]

-- ---- answers

heard_keeps : {R : Type 0} (want : Want) (progress : Progress R) (reference : Option R) (slot : Slot) (entry : ℕ × R) → wants_held progress.held (judging want progress) ≡ false → held_at progress.held slot ≡ Some entry
    → held_at (heard want progress reference).held slot ≡ Some entry
heard_keeps (wants.Done verdict) progress reference slot entry free here = here
heard_keeps (wants.Get table key) progress reference slot entry free here = here
heard_keeps (wants.Look s) progress reference slot entry free here = here
heard_keeps (wants.Count s act) progress reference slot entry free here = here
heard_keeps (wants.Track s table key) progress None slot entry free here = here
heard_keeps (wants.Track s table key) progress (Some r) slot entry free here = stays_put progress.held s slot (Some (table, r)) entry free here

took_in-keeps : {R : Type 0} (want : Want) (progress : Progress R) (reference : Option R) (phase : Phase) (slot : Slot) (entry : ℕ × R) → wants_held progress.held (need_in phase want progress) ≡ false → held_at progress.held slot ≡ Some entry
    → held_at (took_in phase want progress reference).held slot ≡ Some entry
took_in-keeps want progress reference New slot entry free here = heard_keeps want progress reference slot entry free here
took_in-keeps want progress reference Judging slot entry free here = heard_keeps want progress reference slot entry free here
took_in-keeps want progress reference Admitted slot entry free here = here
took_in-keeps want progress reference Rejected slot entry free here = here
took_in-keeps want progress reference Ended slot entry free here = here

took_keeps : {R : Type 0} (want : Want) (progress : Progress R) (reference : Option R) (given : Option (Slot × ℕ)) (slot : Slot) (entry : ℕ × R) → wants_held progress.held (need_given given want progress) ≡ false → held_at progress.held slot ≡ Some entry
    → held_at (took_given given want progress reference).held slot ≡ Some entry
took_keeps want progress reference None slot entry free here = took_in-keeps want progress reference progress.phase slot entry free here
took_keeps want progress reference (Some out) slot entry free here = here

-- ---- refusals

skipped_keeps : {R : Type 0} (need : Need) (progress : Progress R) → (skipped need progress).held ≡ progress.held
skipped_keeps need progress = ap (λ (p : Progress _). p.held) (skipped_leaves need progress)

before_keeps : {R : Type 0} (asking : Bool) (need : Need) (progress : Progress R) → (refused_before asking need progress).held ≡ progress.held
before_keeps true need progress = refl
before_keeps false need progress = skipped_keeps need progress

is_empty : (b : Bool) → not b ≡ true → b ≡ false
is_empty true h = sym h
is_empty false h = refl

refused_keeps : {R : Type 0} (want : Want) (progress : Progress R) (reference : Option R) (given : Option (Slot × ℕ)) (slot : Slot) (entry : ℕ × R) → is_free_for progress.held given ≡ true → held_at progress.held slot ≡ Some entry
    → held_at (refused_given given want progress reference).held slot ≡ Some entry
refused_keeps want progress reference None slot entry free here = ap (λ (h : Held _). held_at h slot) (before_keeps (is_asking want progress) (need_of want progress) progress) ∙ here
refused_keeps want progress None (Some out) slot entry free here = here
refused_keeps want progress (Some r) (Some out) slot entry free here = stays_put progress.held out.0 slot (Some (out.1, r)) entry (is_empty (is_some (held_at progress.held out.0)) free) here

-- ---- references that are handed out

gave_at-keeps : {R : Type 0} (s : Slot) (out : Option (ℕ × R)) (progress : Progress R) (slot : Slot) (entry : ℕ × R) → held_at progress.held slot ≡ Some entry
    → (held_at (gave_at s out progress).held slot ≡ Some entry) ⊎ (s ≡ slot)
gave_at-keeps s None progress slot entry here = inl here
gave_at-keeps s (Some out) progress slot entry here = elim (stays_at progress.held s slot None) [
  | inl same ↦ inl (same ∙ here)
  | inr same ↦ inr same
]

gave_keeps : {R : Type 0} (need : Need) (progress : Progress R) (slot : Slot) (entry : ℕ × R) → held_at progress.held slot ≡ Some entry
    → (held_at (gave_of need progress).held slot ≡ Some entry) ⊎ (need ≡ needs.Release slot)
gave_keeps (needs.Release s) progress slot entry here = elim (gave_at-keeps s (held_at progress.held s) progress slot entry here) [
  | inl stays ↦ inl stays
  | inr same ↦ inr (ap needs.Release same)
]
gave_keeps (needs.Get table key) progress slot entry here = inl here
gave_keeps (needs.Track s table key) progress slot entry here = inl here
gave_keeps (needs.Look s) progress slot entry here = inl here
gave_keeps (needs.Count s act) progress slot entry here = inl here
gave_keeps needs.Rest progress slot entry here = inl here
gave_keeps needs.Turn progress slot entry here = inl here
gave_keeps needs.Finished progress slot entry here = inl here

pub held_law : {R : Type 0} → HeldLaw R
unfolding need_of took_of refused_of
held_law connection (answered answer reference) slot entry free out may here = inl (took_keeps (asks connection) connection.progress reference connection.progress.given slot entry free here)
held_law connection (was_refused reference) slot entry free out may here = inl (refused_keeps (asks connection) connection.progress reference connection.progress.given slot entry out here)
held_law connection turns slot entry free out may here = inl here
held_law connection (closes i o) slot entry free out may here = inl here
held_law connection gives slot entry free out may here = elim (gave_keeps (need connection) connection.progress slot entry here) [
  | inl stays ↦ inl stays
  | inr release ↦ inr (refl, release)
]
