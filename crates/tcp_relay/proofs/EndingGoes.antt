-- A connection that was judged, and not admitted, ends.
use Rattle.std.proofs.Common.{◌≡◌, ◌⊎◌, inl, inr, ℕ, zero, suc, refl, sym, ap, subst, ◌∙◌, Bool, true, false, Option, Some, None, is_some, List, [], ◌∷◌, slice_get}
use Rattle.std.proofs.lemmas.Bool.{false≢true}
use Rattle.shard_book.specs.SeatState.{RefState}
use Rattle.shard_locks.specs.Ported.{seated_meaning}
use Rattle.shard_locks.specs.ShardsState.{SeatedState}
use Rattle.stored_data.specs.declared.act.Act.{Act}
use Rattle.rule_model.specs.declared.actions.Slot.{Slot}
use Rattle.rule_model.specs.declared.sections.Setup.{Setup}
use Rattle.rule_eval.specs.declared.wants.Answer.{Answer}
use Rattle.rule_eval.specs.declared.wants.Samples.{Samples}
use Rattle.rule_eval.specs.declared.wants.Verdict.TheVariants.{Accept, Reject}
use Rattle.rule_eval.specs.declared.wants.Want.{Want}
use Rattle.rule_eval.specs.declared.wants.Want.TheVariants as wants
use Rattle.admit_core.specs.Conn.{needed, progress_of, wanted, Stands}
use Rattle.admit_core.specs.Connection.{Connection, Progress, arrived, asks, closed_of, closing, counting, heard as heard_by, is_asking, is_judged, judging, leaving, need, need_given, need_in, need_of, phase_after, phase_by, refused, refused_before, sessions, took, turned}
use Rattle.admit_core.specs.Held.{holding}
use Rattle.admit_core.specs.Left.{is_rest}
use Rattle.admit_core.specs.declared.conn.Conn.{Conn}
use Rattle.admit_core.specs.declared.need.Need.{Need}
use Rattle.admit_core.specs.declared.need.Need.TheVariants as needs
use Rattle.admit_core.specs.declared.need.Phase.{Phase}
use Rattle.admit_core.specs.declared.need.Phase.TheVariants.{New, Judging, Admitted, Rejected, Ended}
use Rattle.admit_core.proofs.SkippedLemmas.{skipped_leaves}
use Rattle.admit_port.proofs.CommonLemmas.{need_same, none_out}
use Rattle.admit_port.specs.Calls.{answer_of}
use Rattle.admit_port.specs.Moves.{Moves}
use Rattle.admit_port.specs.Visit.{GoesJudged, HasGoneJudged, Visit}
use Rattle.admit_port.specs.declared.moved.Moved.{Moved}
use Rattle.admit_port.specs.declared.moved.Moved.TheVariants.{Answered, Turned, Refused, Kept}
use Rattle.shard_port.specs.Port.{came_with}
use Rattle.tcp_relay.specs.Releasing.{ends_in, is_ending}
use Rattle.tcp_relay.proofs.PassedHeard.{heard_took}
use Rattle.tcp_relay.proofs.PassedHeld.{before_same, heard_given, heard_judged, refused_as, taken}

-- it is judged, or the rules have said what becomes of it; and no reference is handed out
record IsBegun (progress : Progress RefState) : Type 0 where
  given : progress.given ≡ None
  phase : (is_judged progress.phase ≡ true) ⊎ ((progress.phase ≡ Admitted) ⊎ (progress.phase ≡ Rejected))

begun_as : (progress after : Progress RefState) → after ≡ progress → IsBegun progress → IsBegun after
begun_as progress after same is = subst IsBegun (sym same) is

-- ---- a move

takes : (connection : Connection RefState) (answer : Answer) (came : Option RefState) → connection.progress.given ≡ None → is_judged connection.progress.phase ≡ true → IsBegun (took connection answer came).progress
takes connection answer came none judged =
    let took_it = taken connection answer came none judged in
    begun_as (heard_by (asks connection) connection.progress came) (took connection answer came).progress took_it.progress (record {
      given = heard_given (asks connection) connection.progress came ∙ none;
      phase = inl (heard_judged (asks connection) connection.progress came judged);
    })

decided : (want : Want) → (phase_by want ≡ Admitted) ⊎ (phase_by want ≡ Rejected)
decided (wants.Done Accept) = inl refl
decided (wants.Done Reject) = inr refl
decided (wants.Get table key) = inr refl
decided (wants.Track slot table key) = inr refl
decided (wants.Look slot) = inr refl
decided (wants.Count slot act) = inr refl

turns_to : (phase : Phase) (want : Want) → is_judged phase ≡ true → phase_after phase want ≡ phase_by want
turns_to New want judged = refl
turns_to Judging want judged = refl
turns_to Admitted want judged = absurd (false≢true judged)
turns_to Rejected want judged = absurd (false≢true judged)
turns_to Ended want judged = absurd (false≢true judged)

turned_begun : (connection : Connection RefState) → connection.progress.given ≡ None → is_judged connection.progress.phase ≡ true → IsBegun (turned connection).progress
turned_begun connection none judged = by (decided (asks connection))
  where
    by : ((phase_by (asks connection) ≡ Admitted) ⊎ (phase_by (asks connection) ≡ Rejected)) → IsBegun (turned connection).progress
    by (inl is) = record { given = none; phase = inr (inl (turns_to connection.progress.phase (asks connection) judged ∙ is)) }
    by (inr is) = record { given = none; phase = inr (inr (turns_to connection.progress.phase (asks connection) judged ∙ is)) }

before_begun : (asking : Bool) (wanted : Need) (progress : Progress RefState) → progress.given ≡ None → is_judged progress.phase ≡ true → IsBegun (refused_before asking wanted progress)
before_begun true wanted progress none judged = record { given = none; phase = inr (inr refl) }
before_begun false wanted progress none judged =
    let same = skipped_leaves wanted progress in
    record {
      given = ap (λ (p : Progress RefState). p.given) same ∙ none;
      phase = inl (ap (λ (p : Progress RefState). is_judged p.phase) same ∙ judged);
    }

refused_begun : (connection : Connection RefState) → connection.progress.given ≡ None → is_judged connection.progress.phase ≡ true → IsBegun (refused connection None).progress
refused_begun connection none judged =
    begun_as _ (refused connection None).progress (refused_as connection none) (before_begun (is_asking (asks connection) connection.progress) (need connection) connection.progress none judged)

moves_begun : (now : ℕ) (old new : List SeatedState) (connection after : Connection RefState) (moved : Moved) → (moved ≡ Kept → ⊥) → is_judged connection.progress.phase ≡ true → connection.progress.given ≡ None
    → Moves seated_meaning now old connection new after moved → IsBegun after.progress
moves_begun now old new connection after Answered kept judged none moves =
    subst (λ (c : Connection RefState). IsBegun c.progress) (sym (moves.4 ∙ heard_took connection moves.0.shard moves.1 none judged)) (takes connection (answer_of moves.1) (came_with seated_meaning moves.0.shard moves.1) none judged)
moves_begun now old new connection after Turned kept judged none moves = subst (λ (c : Connection RefState). IsBegun c.progress) (sym moves.2) (turned_begun connection none judged)
moves_begun now old new connection after Refused kept judged none moves = subst (λ (c : Connection RefState). IsBegun c.progress) (sym moves.3) (refused_begun connection none judged)
moves_begun now old new connection after Kept kept judged none moves = absurd (kept refl)

goes_begun : {C : Type 0} (shows : C → ℕ → C → Type 0) (count : ℕ) (old new : Visit SeatedState RefState C) → GoesJudged seated_meaning shows count old new → IsBegun old.connection.progress → IsBegun new.connection.progress
goes_begun {C = C} shows zero old new goes is = subst (λ (visit : Visit SeatedState RefState C). IsBegun visit.connection.progress) (sym goes) is
goes_begun shows (suc count) old new goes is =
    goes_begun shows count goes.1 new goes.5 (moves_begun goes.4.0 old.ports goes.1.ports old.connection goes.1.connection goes.2 goes.3 goes.0 is.given goes.4.3)

-- ---- once it is judged

closed_on : (want : Want) (progress : Progress RefState) (bytes : Option (ℕ × ℕ)) → is_rest (closing bytes progress) ≡ false → is_some bytes ≡ true
closed_on want progress None rests = absurd (false≢true (sym rests))
closed_on want progress (Some bytes) rests = refl

in_its_phase : (want : Want) (progress : Progress RefState) → progress.given ≡ None → is_rest (need_of want progress) ≡ false → is_rest (need_in progress.phase want progress) ≡ false
unfolding need_of
in_its_phase want progress none rests = sym (ap (λ g. is_rest (need_given g want progress)) none) ∙ rests

begun_ends : (want : Want) (progress : Progress RefState) → IsBegun progress → is_judged progress.phase ≡ false → is_rest (need_of want progress) ≡ false → ends_in progress.phase progress.bytes ≡ true
begun_ends want progress is judged rests = by is.phase
  where
    by : ((is_judged progress.phase ≡ true) ⊎ ((progress.phase ≡ Admitted) ⊎ (progress.phase ≡ Rejected))) → ends_in progress.phase progress.bytes ≡ true
    by (inl still) = absurd (false≢true (sym judged ∙ still))
    by (inr (inl at)) = ap (λ p. ends_in p progress.bytes) at ∙ closed_on want progress progress.bytes (sym (ap (λ p. is_rest (need_in p want progress)) at) ∙ in_its_phase want progress is.given rests)
    by (inr (inr at)) = ap (λ p. ends_in p progress.bytes) at

-- one that has just come
pub judged_ends : {C : Type 0} (shows : C → ℕ → C → Type 0) (setup : Setup) (samples : Samples) (old new : List SeatedState) (conn later : Conn RefState) (clock shown : C) → Stands conn (arrived setup samples)
    → HasGoneJudged seated_meaning shows old conn clock new later shown → is_judged (progress_of later).phase ≡ false → is_rest (needed later) ≡ false → is_ending later ≡ true
judged_ends shows setup samples old new conn later clock shown stands gone judged rests =
    let visit = gone (arrived setup samples) stands in
    let after : Connection RefState = visit.0 in
    let progress : progress_of later ≡ after.progress = visit.1.progress in
    let begun : IsBegun after.progress =
    goes_begun shows visit.2.0 (record { ports = old; connection = arrived setup samples; clock = clock }) (record { ports = new; connection = after; clock = shown }) visit.2.1 (record { given = refl; phase = inl refl }) in
    let ends : ends_in after.progress.phase after.progress.bytes ≡ true =
    begun_ends (asks after) after.progress begun (sym (ap (λ (p : Progress RefState). is_judged p.phase) progress) ∙ judged) (sym (ap is_rest (need_same later after visit.1)) ∙ rests) in
    ap (λ (p : Progress RefState). ends_in p.phase p.bytes) progress ∙ ends

-- ---- once it is closed

leaves_first : (slots : List Slot) → leaving slots ≡ needs.Rest → ⊥
leaves_first [] is = cc
leaves_first (slot ∷ more) is = cc

counts_first : (act : Option (Slot × Act)) → counting act needs.Turn ≡ needs.Rest → ⊥
counts_first None is = cc
counts_first (Some entry) is = cc

asks_first : (want : Want) (progress : Progress RefState) → judging want progress ≡ needs.Rest → ⊥
asks_first (wants.Get table key) progress is = cc
asks_first (wants.Track slot table key) progress is = cc
asks_first (wants.Look slot) progress is = cc
asks_first (wants.Count slot act) progress is = cc
asks_first (wants.Done Accept) progress is = counts_first (slice_get (sessions (holding progress.held)) progress.counted) is
asks_first (wants.Done Reject) progress is = cc

-- one that rests is admitted
rests_in : (phase : Phase) (want : Want) (progress : Progress RefState) → need_in phase want progress ≡ needs.Rest → phase ≡ Admitted
rests_in New want progress rests = absurd (asks_first want progress rests)
rests_in Judging want progress rests = absurd (asks_first want progress rests)
rests_in Admitted want progress rests = refl
rests_in Rejected want progress rests = absurd (leaves_first (holding progress.held) rests)
rests_in Ended want progress rests = cc

rests_admitted : (want : Want) (progress : Progress RefState) → progress.given ≡ None → need_of want progress ≡ needs.Rest → progress.phase ≡ Admitted
unfolding need_of
rests_admitted want progress none rests = rests_in progress.phase want progress (sym (ap (λ g. need_given g want progress) none) ∙ rests)

-- so it ends with its close
pub close_ends : (conn later : Conn RefState) (bytes_in bytes_out : ℕ) → is_some (progress_of conn).given ≡ false → needed conn ≡ needs.Rest → progress_of later ≡ closed_of (progress_of conn) bytes_in bytes_out → is_ending later ≡ true
close_ends conn later bytes_in bytes_out none rests closes =
    let admitted : (progress_of conn).phase ≡ Admitted = rests_admitted (wanted conn) (progress_of conn) (none_out (progress_of conn).given none) rests in
    ap (λ (p : Progress RefState). ends_in p.phase p.bytes) closes ∙ ap (λ phase. ends_in phase (Some (bytes_in, bytes_out))) admitted
