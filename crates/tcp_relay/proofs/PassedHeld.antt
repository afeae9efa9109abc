-- What becomes of a connection, and of what it holds by sc0, while its rules judge it.
use Rattle.std.proofs.Common.{◌≡◌, ◌⊎◌, inl, inr, ℕ, refl, sym, ap, ◌∙◌, Bool, true, false, not, ◌&&◌, if◌then◌else◌, List, [], ◌∷◌, ◌++◌, Option, Some, None, is_none}
use Rattle.std.proofs.lemmas.Bool.{false≢true}
use Rattle.stored_data.specs.declared.act.Act.{Act}
use Rattle.rule_model.specs.declared.actions.Slot.{Slot}
use Rattle.rule_model.specs.declared.actions.Slot.TheVariants.{Sc0, Sc1, Sc2}
use Rattle.rule_model.specs.declared.sections.Setup.{Setup}
use Rattle.rule_eval.specs.Left.{is_done}
use Rattle.rule_eval.specs.declared.wants.Answer.{Answer}
use Rattle.rule_eval.specs.declared.wants.Samples.{Samples}
use Rattle.rule_eval.specs.declared.wants.Verdict.TheVariants.{Accept, Reject}
use Rattle.rule_eval.specs.declared.wants.Want.{Want}
use Rattle.rule_eval.specs.declared.wants.Want.TheVariants as wants
use Rattle.admit_core.specs.Connection.{Connection, Progress, asks, counting, gave, gave_of, heard as heard_by, is_asking, is_judged, judging, need, phase_after, phase_by, refused, refused_before, refused_given, refused_of, sessions, took, took_given, took_in, took_of, turned}
use Rattle.admit_core.specs.Held.{holding}
use Rattle.admit_core.specs.declared.held.Held.{Held}
use Rattle.admit_core.specs.declared.need.Need.{Need}
use Rattle.admit_core.specs.declared.need.Need.TheVariants as needs
use Rattle.admit_core.specs.declared.need.Phase.{Phase}
use Rattle.admit_core.specs.declared.need.Phase.TheVariants.{New, Judging, Admitted, Rejected, Ended}
use Rattle.admit_core.proofs.ConnLemmas.{judged_need}
use Rattle.admit_core.proofs.SkippedLemmas.{skipped_leaves}
use Rattle.std.specs.Prelude.{slice_get}

-- what it is while its rules judge it, and once they have
pub record IsJudged {R : Type 0} (setup : Setup) (samples : Samples) (connection : Connection R) : Type 0 where
  pub ours : connection.setup ≡ setup
  pub known : connection.samples ≡ samples
  pub given : connection.progress.given ≡ None
  pub accepted : connection.progress.phase ≡ Admitted → asks connection ≡ wants.Done Accept

-- ---- an answer

-- what an answer makes of it: an answer more to its rules, unless they have judged it
pub record HasTaken {R : Type 0} (connection after : Connection R) (answer : Answer) (came : Option R) : Type 0 where
  pub ours : after.setup ≡ connection.setup
  pub samples : after.samples ≡ connection.samples
  pub answers : after.answers ≡ (if not (is_done (asks connection)) then connection.answers ++ answer ∷ [] else connection.answers)
  pub progress : after.progress ≡ heard_by (asks connection) connection.progress came

judged_takes : {R : Type 0} (phase : Phase) (want : Want) (progress : Progress R) (came : Option R) → is_judged phase ≡ true → took_in phase want progress came ≡ heard_by want progress came
judged_takes New want progress came judged = refl
judged_takes Judging want progress came judged = refl
judged_takes Admitted want progress came judged = absurd (false≢true judged)
judged_takes Rejected want progress came judged = absurd (false≢true judged)
judged_takes Ended want progress came judged = absurd (false≢true judged)

pub taken : {R : Type 0} (connection : Connection R) (answer : Answer) (came : Option R) → connection.progress.given ≡ None → is_judged connection.progress.phase ≡ true → HasTaken connection (took connection answer came) answer came
unfolding took_of
taken connection answer came none judged = record {
  ours = refl;
  samples = refl;
  answers = ap (λ b. if (b && not (is_done (asks connection))) then connection.answers ++ answer ∷ [] else connection.answers) judged;
  progress = ap (λ g. took_given g (asks connection) connection.progress came) none ∙ judged_takes connection.progress.phase (asks connection) connection.progress came judged;
}

-- ---- what it wants

none_given : {X : Type 0} (given : Option X) → given ≡ None → is_none given ≡ true
none_given None is = refl
none_given (Some x) is = cc

pub wants_judging : {R : Type 0} (connection : Connection R) → connection.progress.given ≡ None → is_judged connection.progress.phase ≡ true → need connection ≡ judging (asks connection) connection.progress
wants_judging connection none judged = judged_need (asks connection) connection.progress (none_given connection.progress.given none) judged

counts_on : {R : Type 0} (act : Option (Slot × Act)) (progress : Progress R) → gave_of (counting act needs.Turn) progress ≡ progress
counts_on None progress = refl
counts_on (Some entry) progress = refl

gives_none : {R : Type 0} (want : Want) (progress : Progress R) → gave_of (judging want progress) progress ≡ progress
gives_none (wants.Get table key) progress = refl
gives_none (wants.Track slot table key) progress = refl
gives_none (wants.Look slot) progress = refl
gives_none (wants.Count slot act) progress = refl
gives_none (wants.Done Accept) progress = counts_on (slice_get (sessions (holding progress.held)) progress.counted) progress
gives_none (wants.Done Reject) progress = refl

-- nothing is handed out
pub gave_same : {R : Type 0} (connection : Connection R) → connection.progress.given ≡ None → is_judged connection.progress.phase ≡ true → gave connection ≡ connection
gave_same connection none judged =
    ap (λ w. record connection { progress = gave_of w connection.progress }) (wants_judging connection none judged) ∙ ap (λ p. record connection { progress = p }) (gives_none (asks connection) connection.progress)

-- ---- what it holds by sc0

-- a reference that came for it
pub record HasCome {R : Type 0} (want : Want) (came : Option R) (entry : Option (ℕ × R)) : Type 0 where
  pub table : ℕ
  pub key : List ℕ
  pub reference : R
  pub wanted : want ≡ wants.Track Sc0 table key
  pub came_it : came ≡ Some reference
  pub held : entry ≡ Some (table, reference)

pub sc0_after : {R : Type 0} (want : Want) (progress : Progress R) (came : Option R) → ((heard_by want progress came).held.sc0 ≡ progress.held.sc0) ⊎ HasCome want came (heard_by want progress came).held.sc0
sc0_after (wants.Get table key) progress came = inl refl
sc0_after (wants.Look slot) progress came = inl refl
sc0_after (wants.Count slot act) progress came = inl refl
sc0_after (wants.Done verdict) progress came = inl refl
sc0_after (wants.Track slot table key) progress None = inl refl
sc0_after (wants.Track Sc0 table key) progress (Some reference) = inr (record { table = table; key = key; reference = reference; wanted = refl; came_it = refl; held = refl })
sc0_after (wants.Track Sc1 table key) progress (Some reference) = inl refl
sc0_after (wants.Track Sc2 table key) progress (Some reference) = inl refl

-- it is judged still, and nothing is handed out
pub heard_judged : {R : Type 0} (want : Want) (progress : Progress R) (came : Option R) → is_judged progress.phase ≡ true → is_judged (heard_by want progress came).phase ≡ true
heard_judged (wants.Get table key) progress came judged = refl
heard_judged (wants.Track slot table key) progress came judged = refl
heard_judged (wants.Look slot) progress came judged = refl
heard_judged (wants.Count slot act) progress came judged = refl
heard_judged (wants.Done verdict) progress came judged = judged

pub heard_given : {R : Type 0} (want : Want) (progress : Progress R) (came : Option R) → (heard_by want progress came).given ≡ progress.given
heard_given (wants.Get table key) progress came = refl
heard_given (wants.Track slot table key) progress came = refl
heard_given (wants.Look slot) progress came = refl
heard_given (wants.Count slot act) progress came = refl
heard_given (wants.Done verdict) progress came = refl

not_admitted : (phase : Phase) → is_judged phase ≡ true → phase ≡ Admitted → ⊥
not_admitted phase judged is = false≢true (sym (ap is_judged is) ∙ judged)

pub taken_judged : {R : Type 0} (setup : Setup) (samples : Samples) (connection after : Connection R) (answer : Answer) (came : Option R) → IsJudged setup samples connection → is_judged connection.progress.phase ≡ true → HasTaken connection after answer came → IsJudged setup samples after
taken_judged {R = R} setup samples connection after answer came is judged took_it = record {
  ours = took_it.ours ∙ is.ours;
  known = took_it.samples ∙ is.known;
  given = ap (λ (p : Progress R). p.given) took_it.progress ∙ heard_given (asks connection) connection.progress came ∙ is.given;
  accepted = λ at. absurd (not_admitted after.progress.phase (ap (λ (p : Progress R). is_judged p.phase) took_it.progress ∙ heard_judged (asks connection) connection.progress came judged) at);
}

-- ---- a refusal, and a turn

-- it holds the same, with the same answers
pub record HoldsSame {R : Type 0} (connection after : Connection R) : Type 0 where
  pub samples : after.samples ≡ connection.samples
  pub answers : after.answers ≡ connection.answers
  pub sc0 : after.progress.held.sc0 ≡ connection.progress.held.sc0

pub refused_as : {R : Type 0} (connection : Connection R) → connection.progress.given ≡ None → (refused connection None).progress ≡ refused_before (is_asking (asks connection) connection.progress) (need connection) connection.progress
unfolding refused_of
refused_as connection none = ap (λ g. refused_given g (asks connection) connection.progress None) none

pub before_same : {R : Type 0} (asking : Bool) (wanted : Need) (progress : Progress R) → is_judged progress.phase ≡ true
    → ((refused_before asking wanted progress).held ≡ progress.held) × ((refused_before asking wanted progress).given ≡ progress.given) × ((refused_before asking wanted progress).phase ≡ Admitted → ⊥)
before_same true wanted progress judged = (refl, refl, λ is. cc)
before_same {R = R} false wanted progress judged =
    let same = skipped_leaves wanted progress in
    (ap (λ (p : Progress R). p.held) same, ap (λ (p : Progress R). p.given) same, λ is. not_admitted progress.phase judged (sym (ap (λ (p : Progress R). p.phase) same) ∙ is))

pub refused_judged : {R : Type 0} (setup : Setup) (samples : Samples) (connection : Connection R) → IsJudged setup samples connection → is_judged connection.progress.phase ≡ true → IsJudged setup samples (refused connection None) × HoldsSame connection (refused connection None)
refused_judged {R = R} setup samples connection is judged =
    let as_it_is = refused_as connection is.given in
    let same = before_same (is_asking (asks connection) connection.progress) (need connection) connection.progress judged in (
      record { ours = is.ours; known = is.known; given = ap (λ (p : Progress R). p.given) as_it_is ∙ same.1 ∙ is.given; accepted = λ at. absurd (same.2 (sym (ap (λ (p : Progress R). p.phase) as_it_is) ∙ at)) },
      record { samples = refl; answers = refl; sc0 = ap (λ (p : Progress R). p.held.sc0) as_it_is ∙ ap (λ (h : Held R). h.sc0) same.0 },
    )

by_verdict : (want : Want) → phase_by want ≡ Admitted → want ≡ wants.Done Accept
by_verdict (wants.Done Accept) at = refl
by_verdict (wants.Done Reject) at = cc
by_verdict (wants.Get table key) at = cc
by_verdict (wants.Track slot table key) at = cc
by_verdict (wants.Look slot) at = cc
by_verdict (wants.Count slot act) at = cc

turned_phase : (phase : Phase) (want : Want) → phase_after phase want ≡ Admitted → want ≡ wants.Done Accept
turned_phase New want at = by_verdict want at
turned_phase Judging want at = by_verdict want at
turned_phase Admitted want at = cc
turned_phase Rejected want at = cc
turned_phase Ended want at = cc

pub turned_judged : {R : Type 0} (setup : Setup) (samples : Samples) (connection : Connection R) → IsJudged setup samples connection → IsJudged setup samples (turned connection) × HoldsSame connection (turned connection)
turned_judged setup samples connection is = (
  record { ours = is.ours; known = is.known; given = is.given; accepted = λ at. turned_phase connection.progress.phase (asks connection) at },
  record { samples = refl; answers = refl; sc0 = refl },
)
