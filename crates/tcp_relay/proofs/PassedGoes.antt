-- As a connection is judged it holds by sc0 what it tracked first; and once it is admitted, that has passed.
use Rattle.std.proofs.Common.{◌≡◌, ℕ, zero, suc, ◌≤◌, refl, sym, ap, subst, ◌∙◌, Bool, true, false, List, [], ◌∷◌, slice_get, Option, Some, None}
use Rattle.std.proofs.lemmas.Bool.{false≢true}
use Rattle.stored_data.specs.declared.datum.Datum.TheVariants.{ConnCur}
use Rattle.stick_model.specs.declared.specification.Spec.{Spec}
use Rattle.stick_model.specs.declared.rows.Row.{Row}
use Rattle.shard_book.specs.Keeping.{part_of}
use Rattle.shard_book.specs.SeatState.{RefState}
use Rattle.shard_locks.specs.Ported.{seated_meaning}
use Rattle.shard_locks.specs.ShardsState.{SeatedState}
use Rattle.rule_model.specs.declared.actions.KeyExpression.TheVariants as keys
use Rattle.rule_model.specs.declared.actions.Slot.{Slot}
use Rattle.rule_model.specs.declared.sections.NamedSpec.{NamedSpec}
use Rattle.rule_model.specs.declared.sections.Setup.{Setup}
use Rattle.rule_eval.specs.Limit.{IsWithin, LimitsFirst}
use Rattle.rule_eval.specs.Readings.{value_in}
use Rattle.rule_eval.specs.Tables.{has_datum, key_of as source_key}
use Rattle.rule_eval.specs.Verdict.{next}
use Rattle.rule_eval.specs.declared.wants.Answer.{Answer}
use Rattle.rule_eval.specs.declared.wants.Answer.TheVariants as answers
use Rattle.rule_eval.specs.declared.wants.Samples.{Samples}
use Rattle.rule_eval.specs.declared.wants.Verdict.TheVariants.{Accept}
use Rattle.rule_eval.specs.declared.wants.Want.{Want}
use Rattle.rule_eval.specs.declared.wants.Want.TheVariants as wants
use Rattle.rule_eval.proofs.LimitLaws.{within_lem}
use Rattle.rule_eval.proofs.ShownLemmas.{conn_cur_read}
use Rattle.admit_core.specs.Conn.{needed, progress_of, Stands}
use Rattle.admit_core.specs.Connection.{Connection, Progress, arrived, is_judged, leaving, need, need_given, need_in, need_of, asks}
use Rattle.admit_core.specs.Held.{holding}
use Rattle.admit_core.specs.declared.conn.Conn.{Conn}
use Rattle.admit_core.specs.declared.need.Need.TheVariants as needs
use Rattle.admit_core.specs.declared.need.Phase.{Phase}
use Rattle.admit_core.specs.declared.need.Phase.TheVariants.{New, Judging, Admitted, Rejected, Ended}
use Rattle.admit_port.proofs.CommonLemmas.{need_same}
use Rattle.admit_port.specs.Moves.{Moves}
use Rattle.admit_port.specs.Visit.{GoesJudged, HasGoneJudged, Visit}
use Rattle.admit_port.specs.declared.moved.Moved.{Moved}
use Rattle.admit_port.specs.declared.moved.Moved.TheVariants as moved_so
use Rattle.tcp_relay.specs.Passed.{HasPassed, HasPassedBy, HasPassedLimits}
use Rattle.tcp_relay.specs.Untracked.{known_of}
use Rattle.tcp_relay.specs.Seating.{StoreAs}
use Rattle.tcp_relay.proofs.PassedHeard.{hears}
use Rattle.tcp_relay.proofs.PassedHeld.{HoldsSame, IsJudged, refused_judged, turned_judged}
use Rattle.tcp_relay.proofs.PassedLooks.{passes}
use Rattle.tcp_relay.proofs.PassedSeats.{HasTracked, IsLimited, has_looked}

-- ---- a move

-- no seat is told anything
stays : (setup : Setup) (samples : Samples) (table limit : ℕ) (seats : List SeatedState) (connection after : Connection RefState) → IsLimited setup samples table limit seats connection → IsJudged setup samples after → HoldsSame connection after → IsLimited setup samples table limit seats after
stays setup samples table limit seats connection after limited stands same = record {
  stands = stands;
  current = limited.current;
  tracked = λ entry at.
      let tracked : HasTracked setup table limit seats connection entry = limited.tracked entry (sym same.sc0 ∙ at) in
      record {
        source = tracked.source;
        is = subst (λ (known : Samples). source_key setup known keys.Source table ≡ Some tracked.source) (sym same.samples) tracked.is;
        in_table = tracked.in_table;
        seen = tracked.seen;
        rest = tracked.rest;
        begins = same.answers ∙ tracked.begins;
        looked = tracked.looked;
      };
}

module _ (setup : Setup) (samples : Samples) (name : List ℕ) (table limit : ℕ) (first : LimitsFirst setup name table limit) where
  moves_on : (now : ℕ) (old new : List SeatedState) (connection after : Connection RefState) (moved : Moved) → (moved ≡ moved_so.Kept → ⊥) → is_judged connection.progress.phase ≡ true → IsLimited setup samples table limit old connection
      → Moves seated_meaning now old connection new after moved → IsLimited setup samples table limit new after
  moves_on now old new connection after moved_so.Answered kept judged limited moves =
      subst (IsLimited setup samples table limit new) (sym moves.4) (hears setup samples name table limit now old new connection moves.0 moves.1 first limited judged moves.2 moves.3)
  moves_on now old new connection after moved_so.Turned kept judged limited moves =
      let then = turned_judged setup samples connection limited.stands in
      subst (λ seats. IsLimited setup samples table limit seats after) (sym moves.1) (subst (IsLimited setup samples table limit old) (sym moves.2) (stays setup samples table limit old connection _ limited then.0 then.1))
  moves_on now old new connection after moved_so.Refused kept judged limited moves =
      let then = refused_judged setup samples connection limited.stands judged in
      subst (λ seats. IsLimited setup samples table limit seats after) (sym moves.2) (subst (IsLimited setup samples table limit old) (sym moves.3) (stays setup samples table limit old connection _ limited then.0 then.1))
  moves_on now old new connection after moved_so.Kept kept judged limited moves = absurd (kept refl)

  goes_on : {C : Type 0} (shows : C → ℕ → C → Type 0) (count : ℕ) (old new : Visit SeatedState RefState C) → GoesJudged seated_meaning shows count old new → IsLimited setup samples table limit old.ports old.connection → IsLimited setup samples table limit new.ports new.connection
  goes_on {C = C} shows zero old new goes limited = subst (λ (visit : Visit SeatedState RefState C). IsLimited setup samples table limit visit.ports visit.connection) (sym goes) limited
  goes_on shows (suc count) old new goes limited =
      let next_one = goes.1 in
      let moved_once = goes.4 in
      goes_on shows count next_one new goes.5 (moves_on moved_once.0 old.ports next_one.ports old.connection next_one.connection goes.2 goes.3 goes.0 limited moved_once.3)

-- ---- once it is admitted

-- the row of few that an accepted one was shown
record HasRow (limit : ℕ) (rest : List Answer) : Type 0 where
  row : Row
  more : List Answer
  is : rest ≡ answers.Row row ∷ more
  few : value_in row.cells ConnCur ≤ limit

within_row : (limit : ℕ) (rest : List Answer) → IsWithin limit (answers.Tracked ∷ rest) → HasRow limit rest
within_row limit (answers.Row row ∷ more) within = record { row = row; more = more; is = refl; few = within }
within_row limit (answers.Absent ∷ more) within = absurd within
within_row limit (answers.Tracked ∷ more) within = absurd within
within_row limit (answers.Untracked ∷ more) within = absurd within
within_row limit (answers.Value value ∷ more) within = absurd within
within_row limit (answers.Released ∷ more) within = absurd within
within_row limit [] within = absurd within

admitted_passed : (setup : Setup) (samples : Samples) (name : List ℕ) (table limit : ℕ) (seats : List SeatedState) (connection : Connection RefState) (entry : ℕ × RefState) → LimitsFirst setup name table limit → IsLimited setup samples table limit seats connection
    → connection.progress.phase ≡ Admitted → connection.progress.held.sc0 ≡ Some entry → (entry.0 ≡ table) × HasPassedBy setup samples limit seats entry
admitted_passed setup samples name table limit seats connection entry first limited admitted held =
    let tracked : HasTracked setup table limit seats connection entry = limited.tracked entry held in
    let source : source_key setup samples keys.Source entry.0 ≡ Some tracked.source = (λ k. source_key setup (sym limited.stands.known k) keys.Source (tracked.in_table k)) ∙ tracked.is in
    let accepted : next setup connection.samples connection.answers ≡ wants.Done Accept = ap (λ s. next s connection.samples connection.answers) (sym limited.stands.ours) ∙ limited.stands.accepted admitted in
    let within : IsWithin limit connection.answers = within_lem setup name table limit connection.samples tracked.source connection.answers first tracked.is accepted in
    let shown = within_row limit tracked.rest (subst (IsWithin limit) tracked.begins within) in
    let looked : has_looked limit tracked.seen ≡ true = tracked.looked shown.row shown.more shown.is shown.few in
    let part : Spec = part_of tracked.seen.seat.table.spec tracked.seen.seat.table.shards entry.1.shard in
    let has : HasPassed setup.shards limit tracked.source (known_of tracked.seen.seat entry.1.shard) entry.1 = record {
      history = tracked.seen.history;
      on_shard = tracked.seen.on_shard;
      of_key = tracked.seen.of_key;
      looked = looked;
      passed = passes part (known_of tracked.seen.seat entry.1.shard) tracked.source limit entry.1.ticket looked tracked.seen.made (limited.current tracked.seen.seat (ap (slice_get seats) (sym tracked.in_table) ∙ tracked.seen.at));
    } in
    (tracked.in_table, record { key = tracked.source; source = source; seat = tracked.seen.seat; at = tracked.seen.at; has = has })

-- ---- what rests is admitted

leaves : (slots : List Slot) → leaving slots ≡ needs.Rest → ⊥
leaves [] is = cc
leaves (slot ∷ more) is = cc

rests_in : (phase : Phase) (want : Want) (progress : Progress RefState) → is_judged phase ≡ false → need_in phase want progress ≡ needs.Rest → phase ≡ Admitted
rests_in Admitted want progress judged rests = refl
rests_in Rejected want progress judged rests = absurd (leaves (holding progress.held) rests)
rests_in Ended want progress judged rests = cc
rests_in New want progress judged rests = cc
rests_in Judging want progress judged rests = cc

pub rests_admitted : (connection : Connection RefState) → connection.progress.given ≡ None → is_judged connection.progress.phase ≡ false → need connection ≡ needs.Rest → connection.progress.phase ≡ Admitted
unfolding need_of
rests_admitted connection none judged rests = rests_in connection.progress.phase (asks connection) connection.progress judged (sym (ap (λ g. need_given g (asks connection) connection.progress) none) ∙ rests)

none_some : {X : Type 0} (x : X) → None ≡ Some x → ⊥
none_some x e = cc

-- the table of the limit stores conn_cur, as the setup says
stored_first : (setup : Setup) (name : List ℕ) (table limit : ℕ) (current : ℕ → Bool) → StoreAs (λ (named : NamedSpec). named.spec) current setup.tables → LimitsFirst setup name table limit → current table ≡ true
stored_first setup name table limit current stores first = by (slice_get setup.tables table) refl first.stored
  where
    by : (o : Option NamedSpec) → slice_get setup.tables table ≡ o → has_datum o ConnCur ≡ true → current table ≡ true
    by None at is = absurd (false≢true is)
    by (Some named) at is = sym (stores table named at) ∙ (sym (conn_cur_read named.spec.columns) ∙ is)

-- one that has just come, and was judged
pub judged_passed : {C : Type 0} (shows : C → ℕ → C → Type 0) (setup : Setup) (samples : Samples) (old new : List SeatedState) (conn later : Conn RefState) (clock shown : C) (current : ℕ → Bool) → StoreAs (λ (named : NamedSpec). named.spec) current setup.tables
    → StoreAs (λ (one : SeatedState). one.table.spec) current old → Stands conn (arrived setup samples) → HasGoneJudged seated_meaning shows old conn clock new later shown
    → is_judged (progress_of later).phase ≡ false → needed later ≡ needs.Rest → HasPassedLimits setup samples new later
judged_passed shows setup samples old new conn later clock shown current declared stores stands gone judged rests name table limit entry first held =
    let visit = gone (arrived setup samples) stands in
    let after : Connection RefState = visit.0 in
    let progress : progress_of later ≡ after.progress = visit.1.progress in
    let begins : IsLimited setup samples table limit old (arrived setup samples) = record { stands = record { ours = refl; known = refl; given = refl; accepted = λ at. cc }; current = λ seat at. stores table seat at ∙ stored_first setup name table limit current declared first; tracked = λ it at. absurd (none_some it at) } in
    let limited : IsLimited setup samples table limit new after =
    goes_on setup samples name table limit first shows visit.2.0 (record { ports = old; connection = arrived setup samples; clock = clock }) (record { ports = new; connection = after; clock = shown }) visit.2.1 begins in
    let admitted : after.progress.phase ≡ Admitted = rests_admitted after limited.stands.given (sym (ap (λ (p : Progress RefState). is_judged p.phase) progress) ∙ judged) (sym (need_same later after visit.1) ∙ rests) in
    admitted_passed setup samples name table limit new after entry first limited admitted (sym (ap (λ (p : Progress RefState). p.held.sc0) progress) ∙ held)
