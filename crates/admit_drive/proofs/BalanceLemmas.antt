-- What a connection's move leaves in balance: what it holds, and what is out.
use Rattle.std.proofs.Common.{◌≡◌, ℕ, ◌+◌, ◌≤◌, refl, sym, ap, subst, ◌∙◌, arith, Bool, true, false, cond, List, Option, Some, None, is_some}
use Rattle.std.proofs.lemmas.Bool.{false≢true}
use Rattle.rule_model.specs.declared.actions.Slot.{Slot}
use Rattle.rule_model.specs.declared.sections.Setup.{Setup}
use Rattle.stick_model.specs.Laws.{tickets_told}
use Rattle.stick_model.specs.declared.events.Event.TheVariants as events
use Rattle.stick_model.specs.declared.replies.Reply.{Reply}
use Rattle.stick_model.specs.declared.replies.Reply.TheVariants as replies
use Rattle.stick_model.specs.declared.rows.Row.{Row}
use Rattle.stick_model.specs.declared.rows.Ticket.{Ticket}
use Rattle.stick_model.proofs.StepLemmas.{step_tickets}
use Rattle.rule_eval.specs.declared.wants.Answer.{Answer}
use Rattle.rule_eval.specs.declared.wants.Answer.TheVariants as answers
use Rattle.admit_core.specs.Connection.{Connection, Progress, asks, gave_of, need, refused, took, took_of, wants_held}
use Rattle.admit_core.specs.Held.{held_at, held_with}
use Rattle.admit_core.specs.declared.need.Need.{Need}
use Rattle.admit_core.specs.declared.need.Need.TheVariants as needs
use Rattle.admit_drive.specs.Balance.{IsCovered, same_reference, times_by, times_in, times_of, times_out}
use Rattle.admit_drive.specs.Calls.{AnswersAt, call_by, call_of, fits, heard}
use Rattle.admit_drive.specs.Moves.{Makes, Moves, MovesBy}
use Rattle.admit_drive.specs.Tables.{AreTablesOf, TableState}
use Rattle.admit_port.specs.Calls.{Call}
use Rattle.shard_port.specs.declared.reference.Reference.{Reference}
use Rattle.admit_drive.proofs.HeldLemmas.{gave_back, refused_same, times_with, took_nothing, took_tracked}
use Rattle.admit_drive.proofs.CallLemmas.{held_out, legal_at}
use Rattle.admit_drive.proofs.ShardLemmas.{after_of, before_of, out_less, out_more, out_same, replaces, step_of}
use Rattle.admit_drive.proofs.ReplyLemmas.{reply_fits}
use Rattle.admit_drive.proofs.TicketLemmas.{once_of, released_times, tracked_times}

-- what is out has changed as what it holds, and no reference is handed out
pub record IsBalanced (old : List TableState) (before : Progress Reference) (new : List TableState) (after : Progress Reference) : Type 0 where
  pub balance : (reference : ℕ × Reference) → times_by reference after.held + times_out reference old ≡ times_by reference before.held + times_out reference new
  pub given : after.given ≡ None

-- ---- nothing changes

pub same_balance : (old new : List TableState) (before after : Progress Reference) → new ≡ old → (after.held ≡ before.held) × (after.given ≡ None) → IsBalanced old before new after
same_balance old new before after stays same = record {
  balance = λ reference. (λ k. times_by reference (same.0 k) + times_out reference (sym stays k));
  given = same.1;
}

-- ---- a shard answers

module _ (old new : List TableState) (before : Progress Reference) (call : Call) (reply : Reply) (answers_it : AnswersAt old call reply new) where
  nothing_told : (after : Progress Reference) → tickets_told call.event reply (before_of answers_it).tickets ≡ (before_of answers_it).tickets → (after.held ≡ before.held) × (after.given ≡ None) → IsBalanced old before new after
  nothing_told after told same =
      let kept : (after_of answers_it).tickets ≡ (before_of answers_it).tickets = step_tickets (before_of answers_it) call.event reply (after_of answers_it) (step_of answers_it) ∙ told in
      record {
        balance = λ reference. (λ k. times_by reference (same.0 k) + sym (out_same old new call.table call.shard (before_of answers_it) (after_of answers_it) (replaces old new call reply answers_it) reference kept) k);
        given = same.1;
      }

-- a reference more is out, and held
one_more : (now_held now_out was_held was_out none one given : ℕ) → now_held + none ≡ was_held + given → none ≡ 0 → now_out ≡ was_out + one → given ≡ one → now_held + was_out ≡ was_held + now_out
one_more now_held now_out was_held was_out none one given held empty out is = omega (arith, held, empty, out, is)

tracked_told : (old new : List TableState) (before after : Progress Reference) (call : Call) (given : Ticket) (row : Row) (slot : Slot) → AnswersAt old call (replies.Tracked given row) new → held_at before.held slot ≡ None
    → after.held ≡ held_with before.held slot (Some (call.table, record { shard = call.shard; ticket = given })) → after.given ≡ None → IsBalanced old before new after
tracked_told old new before after call given row slot answers_it free held none =
    let made : ℕ × Reference = (call.table, record { shard = call.shard; ticket = given }) in
    record {
      balance = λ reference. subst (λ h. times_by reference h + times_out reference old ≡ times_by reference before.held + times_out reference new) (sym held)
          (one_more (times_by reference (held_with before.held slot (Some made))) (times_out reference new) (times_by reference before.held) (times_out reference old) (times_in reference (held_at before.held slot))
          (cond (same_reference reference made) 1 0) (times_in reference (Some made)) (times_with reference before.held slot (Some made)) (ap (times_in reference) free)
          (out_more old new call.table call.shard (before_of answers_it) (after_of answers_it) (replaces old new call (replies.Tracked given row) answers_it) reference given
          (λ ticket. tracked_times (before_of answers_it) call.event given row (after_of answers_it) ticket (step_of answers_it))) refl);
      given = none;
    }

-- one less is out, and held
one_less : (now_held now_out was_held was_out one gone : ℕ) → now_held + gone ≡ was_held + 0 → now_out + one ≡ was_out → gone ≡ one → now_held + was_out ≡ was_held + now_out
one_less now_held now_out was_held was_out one gone held out is = omega (arith, held, out, is)

exactly : (a b c : ℕ) → 1 ≤ a → a ≡ b → b ≤ 1 → b ≡ 1
exactly a b c some is most = omega (arith, some, is, most)

released_told : (setup : Setup) (old new : List TableState) (before after : Progress Reference) (now : ℕ) (entry : ℕ × Reference) (slot : Slot) → AreTablesOf setup old → IsCovered old before.held → held_at before.held slot ≡ Some entry
    → AnswersAt old (record { table = entry.0; shard = entry.1.shard; event = events.Release now entry.1.ticket }) replies.Released new
    → after.held ≡ held_with before.held slot None → after.given ≡ None → IsBalanced old before new after
released_told setup old new before after now entry slot are covered at answers_it held none =
    let call : Call = record { table = entry.0; shard = entry.1.shard; event = events.Release now entry.1.ticket } in
    let replaced = replaces old new call replies.Released answers_it in
    let legal = legal_at setup old entry.0 entry.1.shard (before_of answers_it) are replaced.was in
    let out : times_out entry old ≡ times_of entry.1.ticket (before_of answers_it) = ap (λ o. Rattle.std.specs.Option.option_map_or (times_of entry.1.ticket) o 0) replaced.was in
    let one : times_of entry.1.ticket (before_of answers_it) ≡ 1 =
    exactly (times_out entry old) (times_of entry.1.ticket (before_of answers_it)) 0 (held_out old before.held slot entry covered at) out (once_of entry.1.ticket (before_of answers_it) legal) in
    record {
      balance = λ reference. subst (λ h. times_by reference h + times_out reference old ≡ times_by reference before.held + times_out reference new) (sym held)
          (one_less (times_by reference (held_with before.held slot None)) (times_out reference new) (times_by reference before.held) (times_out reference old)
          (cond (same_reference reference entry) 1 0) (times_in reference (held_at before.held slot)) (times_with reference before.held slot None)
          (out_less old new entry.0 entry.1.shard (before_of answers_it) (after_of answers_it) replaced reference entry.1.ticket
          (λ ticket. released_times (before_of answers_it) now entry.1.ticket (after_of answers_it) ticket one (step_of answers_it)))
          (ap (times_in reference) at));
      given = none;
    }

-- ---- what is answered

none_of : {X : Type 0} (o : Option X) → is_some o ≡ false → o ≡ None
none_of None is = refl
none_of (Some x) is = absurd (false≢true (sym is))

module _ (setup : Setup) (old new : List TableState) (connection : Connection Reference) (none : connection.progress.given ≡ None) (are : AreTablesOf setup old) (covered : IsCovered old connection.progress.held) where
  abbrev Becomes : Connection Reference → Type 0
  Becomes after = IsBalanced old connection.progress new after.progress

  answered_nothing : (call : Call) (reply : Reply) (answer : Answer) (answers_it : AnswersAt old call reply new) → tickets_told call.event reply (before_of answers_it).tickets ≡ (before_of answers_it).tickets → Becomes (took connection answer None)
  answered_nothing call reply answer answers_it told =
      nothing_told old new connection.progress call reply answers_it (took connection answer None).progress told (took_nothing (asks connection) connection.progress none)

  answered_tracked : (shards now : ℕ) (wanted : Need) (call : Call) (given : Ticket) (row : Row) → need connection ≡ wanted → call_of shards now connection.progress.held wanted ≡ Some call → wants_held connection.progress.held wanted ≡ false
      → fits wanted (replies.Tracked given row) ≡ true → AnswersAt old call (replies.Tracked given row) new → Becomes (heard connection call.shard (replies.Tracked given row))
  answered_tracked shards now (needs.Track slot table key) call given row is asks_it free fit answers_it =
      let in_table : table ≡ call.table = cc in
      let after : Connection Reference = heard connection call.shard (replies.Tracked given row) in
      let told = took_tracked (asks connection) connection.progress slot table key (record { shard = call.shard; ticket = given }) none is in
      tracked_told old new connection.progress after.progress call given row slot answers_it (none_of (held_at connection.progress.held slot) free)
      (told.0 ∙ ap (λ n. held_with connection.progress.held slot (Some (n, record { shard = call.shard; ticket = given }))) in_table) told.1
  answered_tracked shards now (needs.Get table key) call given row is asks_it free fit answers_it = absurd (false≢true fit)
  answered_tracked shards now (needs.Look slot) call given row is asks_it free fit answers_it = absurd (false≢true fit)
  answered_tracked shards now (needs.Count slot act) call given row is asks_it free fit answers_it = absurd (false≢true fit)
  answered_tracked shards now (needs.Release slot) call given row is asks_it free fit answers_it = absurd (false≢true fit)
  answered_tracked shards now needs.Rest call given row is asks_it free fit answers_it = absurd (false≢true fit)
  answered_tracked shards now needs.Turn call given row is asks_it free fit answers_it = absurd (false≢true fit)
  answered_tracked shards now needs.Finished call given row is asks_it free fit answers_it = absurd (false≢true fit)

  given_back : (now : ℕ) (slot : Slot) (call : Call) (entry : Option (ℕ × Reference)) → held_at connection.progress.held slot ≡ entry → need connection ≡ needs.Release slot → call_by (λ ticket. events.Release now ticket) entry ≡ Some call
      → AnswersAt old call replies.Released new → Becomes (heard connection call.shard replies.Released)
  given_back now slot call None at is asks_it answers_it = cc
  given_back now slot call (Some entry) at is asks_it answers_it =
      let made : Call = record { table = entry.0; shard = entry.1.shard; event = events.Release now entry.1.ticket } in
      let same : call ≡ made = cc in
      let after : Connection Reference = heard connection call.shard replies.Released in
      let gave : after.progress ≡ took_of (asks connection) (gave_of (needs.Release slot) connection.progress) None = ap (λ w. took_of (asks connection) (gave_of w connection.progress) None) is in
      let told = gave_back (asks connection) connection.progress slot (ap is_some at) in
      released_told setup old new connection.progress after.progress now entry slot are covered at (subst (λ c. AnswersAt old c replies.Released new) same answers_it)
      (ap (λ (p : Progress Reference). p.held) gave ∙ told.0) (ap (λ (p : Progress Reference). p.given) gave ∙ told.1)

  answered_released : (shards now : ℕ) (wanted : Need) (call : Call) → need connection ≡ wanted → call_of shards now connection.progress.held wanted ≡ Some call → fits wanted replies.Released ≡ true
      → AnswersAt old call replies.Released new → Becomes (heard connection call.shard replies.Released)
  answered_released shards now (needs.Release slot) call is asks_it fit answers_it = given_back now slot call (held_at connection.progress.held slot) refl is asks_it answers_it
  answered_released shards now (needs.Track slot table key) call is asks_it fit answers_it = absurd (false≢true fit)
  answered_released shards now (needs.Get table key) call is asks_it fit answers_it = absurd (false≢true fit)
  answered_released shards now (needs.Look slot) call is asks_it fit answers_it = absurd (false≢true fit)
  answered_released shards now (needs.Count slot act) call is asks_it fit answers_it = absurd (false≢true fit)
  answered_released shards now needs.Rest call is asks_it fit answers_it = absurd (false≢true fit)
  answered_released shards now needs.Turn call is asks_it fit answers_it = absurd (false≢true fit)
  answered_released shards now needs.Finished call is asks_it fit answers_it = absurd (false≢true fit)

  -- whatever is replied; what is neither a reference nor a release changes nothing
  answered : (shards now : ℕ) (wanted : Need) (call : Call) (reply : Reply) → need connection ≡ wanted → call_of shards now connection.progress.held wanted ≡ Some call → wants_held connection.progress.held wanted ≡ false
      → fits wanted reply ≡ true → AnswersAt old call reply new → Becomes (heard connection call.shard reply)
  answered shards now wanted call (replies.Tracked given row) is asks_it free fit answers_it = answered_tracked shards now wanted call given row is asks_it free fit answers_it
  answered shards now wanted call replies.Released is asks_it free fit answers_it = answered_released shards now wanted call is asks_it fit answers_it
  answered shards now wanted call replies.Absent is asks_it free fit answers_it = answered_nothing call replies.Absent answers.Absent answers_it refl
  answered shards now wanted call (replies.Row row) is asks_it free fit answers_it = answered_nothing call (replies.Row row) (answers.Row row) answers_it refl
  answered shards now wanted call replies.NoRefs is asks_it free fit answers_it = answered_nothing call replies.NoRefs answers.Untracked answers_it refl
  answered shards now wanted call replies.Full is asks_it free fit answers_it = answered_nothing call replies.Full answers.Untracked answers_it refl
  answered shards now wanted call (replies.Value value) is asks_it free fit answers_it = answered_nothing call (replies.Value value) (answers.Value value) answers_it refl
  answered shards now wanted call (replies.NotSettable datum) is asks_it free fit answers_it = answered_nothing call (replies.NotSettable datum) answers.Untracked answers_it refl
  answered shards now wanted call (replies.NotStored datum) is asks_it free fit answers_it = answered_nothing call (replies.NotStored datum) answers.Untracked answers_it refl
  answered shards now wanted call (replies.Written created) is asks_it free fit answers_it = answered_nothing call (replies.Written created) answers.Untracked answers_it refl
  answered shards now wanted call replies.InUse is asks_it free fit answers_it = answered_nothing call replies.InUse answers.Untracked answers_it refl
  answered shards now wanted call replies.Removed is asks_it free fit answers_it = answered_nothing call replies.Removed answers.Untracked answers_it refl
  answered shards now wanted call (replies.Cleared removed kept) is asks_it free fit answers_it = answered_nothing call (replies.Cleared removed kept) answers.Untracked answers_it refl
  answered shards now wanted call (replies.Rows used rows) is asks_it free fit answers_it = answered_nothing call (replies.Rows used rows) answers.Untracked answers_it refl
  answered shards now wanted call (replies.Expired count) is asks_it free fit answers_it = answered_nothing call (replies.Expired count) answers.Untracked answers_it refl

  -- an event is made, or refused
  made_by : (shards now : ℕ) (wanted : Need) (call : Option Call) (after : Connection Reference) (was_refused : Bool) → need connection ≡ wanted → call_of shards now connection.progress.held wanted ≡ call
      → wants_held connection.progress.held wanted ≡ false → Makes old connection call new after was_refused → Becomes after
  made_by shards now wanted call after true is asks_it free makes =
      subst (λ (c : Connection Reference). Becomes c) (sym makes.2) (same_balance old new connection.progress (refused connection None).progress makes.1 (refused_same (asks connection) connection.progress none))
  made_by shards now wanted None after false is asks_it free makes = absurd makes
  made_by shards now wanted (Some call) after false is asks_it free makes =
      let legal = legal_at setup old call.table call.shard (before_of makes.1) are (replaces old new call makes.0 makes.1).was in
      let fit : fits wanted makes.0 ≡ true = reply_fits shards now connection.progress.held wanted call (before_of makes.1) (after_of makes.1) makes.0 asks_it legal (step_of makes.1) in
      subst (λ (c : Connection Reference). Becomes c) (sym makes.2) (answered shards now wanted call makes.0 is asks_it free fit makes.1)

  stays_so : (after : Connection Reference) → new ≡ old → after.progress.held ≡ connection.progress.held → after.progress.given ≡ None → Becomes after
  stays_so after stays held is = same_balance old new connection.progress after.progress stays (held, is)

  moved_by : (now : ℕ) (wanted : Need) (after : Connection Reference) (was_refused : Bool) → need connection ≡ wanted → wants_held connection.progress.held wanted ≡ false → MovesBy now old connection wanted new after was_refused → Becomes after
  moved_by now needs.Rest after was_refused is free moves = stays_so after moves.0 (ap (λ (c : Connection Reference). c.progress.held) moves.1) (ap (λ (c : Connection Reference). c.progress.given) moves.1 ∙ none)
  moved_by now needs.Finished after was_refused is free moves = stays_so after moves.0 (ap (λ (c : Connection Reference). c.progress.held) moves.1) (ap (λ (c : Connection Reference). c.progress.given) moves.1 ∙ none)
  moved_by now needs.Turn after was_refused is free moves = stays_so after moves.0 (ap (λ (c : Connection Reference). c.progress.held) moves.1) (ap (λ (c : Connection Reference). c.progress.given) moves.1 ∙ none)
  moved_by now (needs.Get table key) after was_refused is free moves = made_by connection.setup.shards now (needs.Get table key) _ after was_refused is refl free moves
  moved_by now (needs.Track slot table key) after was_refused is free moves = made_by connection.setup.shards now (needs.Track slot table key) _ after was_refused is refl free moves
  moved_by now (needs.Look slot) after was_refused is free moves = made_by connection.setup.shards now (needs.Look slot) _ after was_refused is refl free moves
  moved_by now (needs.Count slot act) after was_refused is free moves = made_by connection.setup.shards now (needs.Count slot act) _ after was_refused is refl free moves
  moved_by now (needs.Release slot) after was_refused is free moves = made_by connection.setup.shards now (needs.Release slot) _ after was_refused is refl free moves

-- one reference less or more is out as it is held less or more, and what is handed out is back
pub move_balance : (now : ℕ) (setup : Setup) (old : List TableState) (connection : Connection Reference) (new : List TableState) (after : Connection Reference) (was_refused : Bool) → AreTablesOf setup old → IsCovered old connection.progress.held
    → connection.progress.given ≡ None → wants_held connection.progress.held (need connection) ≡ false → Moves now old connection new after was_refused → IsBalanced old connection.progress new after.progress
move_balance now setup old connection new after was_refused are covered none free moves = moved_by setup old new connection none are covered now (need connection) after was_refused refl free moves

-- what it holds stays out
covers : (held out later_held later_out : ℕ) → held ≤ out → later_held + out ≡ held + later_out → later_held ≤ later_out
covers held out later_held later_out covered balance = omega (arith, covered, balance)

pub balance_covers : (old new : List TableState) (before after : Progress Reference) → IsBalanced old before new after → IsCovered old before.held → IsCovered new after.held
balance_covers old new before after balanced covered reference =
    covers (times_by reference before.held) (times_out reference old) (times_by reference after.held) (times_out reference new) (covered reference) (balanced.balance reference)
