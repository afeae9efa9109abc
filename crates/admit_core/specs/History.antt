-- What can happen to a connection, and what its history keeps.
use Rattle.std.specs.Prelude.{◌≡◌, ◌⊎◌, ℕ, Bool, true, false, List, [], ◌∷◌, Option, Some, None, is_some}
use Rattle.rule_model.specs.declared.actions.Slot.{Slot}
use Rattle.rule_model.specs.declared.sections.Setup.{Setup}
use Rattle.rule_eval.specs.Verdict.{next}
use Rattle.rule_eval.specs.declared.wants.Answer.{Answer}
use Rattle.rule_eval.specs.declared.wants.Answer.TheVariants.{Released}
use Rattle.rule_eval.specs.declared.wants.Samples.{Samples}
use Rattle.rule_eval.specs.declared.wants.Verdict.TheVariants.{Accept}
use Rattle.rule_eval.specs.declared.wants.Want.TheVariants.{Done}
use Rattle.admit_core.specs.Connection.{Connection, answers_need, arrived, closed, gave, is_event, is_judged, is_release, need, refused, took, turned, wants_held}
use Rattle.admit_core.specs.Held.{held_at, holding, is_free_for}
use Rattle.admit_core.specs.declared.need.Need.{Need}
use Rattle.admit_core.specs.declared.need.Need.TheVariants.{Count, Release, Rest, Turn}
use Rattle.admit_core.specs.declared.need.Phase.TheVariants.{Admitted, Rejected}

-- an answer with the reference that came, a refusal with the one that came back, a turn, its close, and a reference handed out
pub data Happening (R : Type 0) : Type 0 where
  answered : Answer → Option R → Happening R
  was_refused : Option R → Happening R
  turns : Happening R
  closes : ℕ → ℕ → Happening R
  gives : Happening R

-- what may happen is what it wants
abbrev pub May : {R : Type 0} → Connection R → Happening R → Type 0
May connection (answered answer reference) = (answers_need (need connection) answer reference ≡ true) × (answer ≡ Released → is_some connection.progress.given ≡ true)
May connection (was_refused reference) = (is_event (need connection) ≡ true) × (is_some reference ≡ is_some connection.progress.given)
May connection turns = need connection ≡ Turn
May connection (closes bytes_in bytes_out) = need connection ≡ Rest
May connection gives = (is_release (need connection) ≡ true) × (is_some connection.progress.given ≡ false)

abbrev pub after : {R : Type 0} → Connection R → Happening R → Connection R
after connection (answered answer reference) = took connection answer reference
after connection (was_refused reference) = refused connection reference
after connection turns = turned connection
after connection (closes bytes_in bytes_out) = closed connection bytes_in bytes_out
after connection gives = gave connection

-- from one state these may happen, one after another, and lead to another state
abbrev pub Lives : {R : Type 0} → Connection R → List (Happening R) → Connection R → Type 0
Lives old [] new = new ≡ old
Lives old (happening ∷ more) new = May old happening × Lives (after old happening) more new

-- ---- laws

-- it is admitted only by the verdict of its rules on the answers that came
abbrev pub AdmittedLaw : Type 0 → Type 0
AdmittedLaw R = (setup : Setup) (samples : Samples) (history : List (Happening R)) (connection : Connection R) →
    Lives (arrived setup samples) history connection → connection.progress.phase ≡ Admitted → next setup samples connection.answers ≡ Done Accept

abbrev pub is_count : Need → Bool
is_count (Count slot act) = true
is_count other = false

-- once it is rejected nothing is counted
abbrev pub RejectedLaw : Type 0 → Type 0
RejectedLaw R = (connection : Connection R) → connection.progress.phase ≡ Rejected → is_count (need connection) ≡ false

-- behind the verdict its next phase is wanted only where it holds no reference, and none is handed out
abbrev pub EndedLaw : Type 0 → Type 0
EndedLaw R = (connection : Connection R) → is_judged connection.progress.phase ≡ false → need connection ≡ Turn →
    (holding connection.progress.held ≡ []) × (connection.progress.given ≡ None)

-- whatever happens, what a slot holds stays, but where it is handed out to be released
abbrev pub HeldLaw : Type 0 → Type 0
HeldLaw R = (connection : Connection R) (happening : Happening R) (slot : Slot) (entry : ℕ × R) →
    wants_held connection.progress.held (need connection) ≡ false → is_free_for connection.progress.held connection.progress.given ≡ true →
    May connection happening → held_at connection.progress.held slot ≡ Some entry →
    (held_at (after connection happening).progress.held slot ≡ Some entry) ⊎ ((happening ≡ gives) × (need connection ≡ Release slot))
