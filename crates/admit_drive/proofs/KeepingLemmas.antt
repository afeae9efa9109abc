-- What a connection keeps as it goes on: the balance of references, its tables, and what its answers tell of it.
use Rattle.std.proofs.Common.{◌≡◌, ℕ, zero, suc, ◌+◌, ◌<◌, ◌^◌, refl, sym, subst, ◌∙◌, arith, Bool, true, false, List, Option, Some, None}
use Rattle.std.proofs.lemmas.Bool.{false≢true}
use Rattle.rule_model.specs.declared.actions.Slot.{Slot}
use Rattle.rule_model.specs.declared.sections.Setup.{Setup}
use Rattle.stick_model.specs.declared.events.Event.TheVariants as events
use Rattle.stick_model.specs.declared.replies.Reply.{Reply}
use Rattle.stick_model.specs.declared.replies.Reply.TheVariants as replies
use Rattle.rule_eval.specs.declared.wants.Answer.{Answer}
use Rattle.rule_eval.specs.declared.wants.Answer.TheVariants as answers
use Rattle.admit_core.specs.Connection.{Connection, asks, need, refused, took, turned}
use Rattle.admit_core.specs.Held.{held_at}
use Rattle.admit_core.specs.declared.need.Need.{Need}
use Rattle.admit_core.specs.declared.need.Need.TheVariants as needs
use Rattle.admit_drive.specs.Balance.{IsCovered, times_by, times_out}
use Rattle.admit_drive.specs.Calls.{call_by, call_of, fits, heard}
use Rattle.admit_drive.specs.Lived.{IsLived}
use Rattle.admit_drive.specs.Moves.{Goes, Makes, Moves, MovesBy, ComesToRest}
use Rattle.admit_drive.specs.Tables.{AreTablesOf, TableState}
use Rattle.admit_port.specs.Calls.{Call}
use Rattle.shard_port.specs.declared.reference.Reference.{Reference}
use Rattle.admit_drive.proofs.TablesLemmas.{move_tables}
use Rattle.admit_drive.proofs.CallLemmas.{legal_at}
use Rattle.admit_drive.proofs.LivedLemmas.{is_tracked, lived_free, other_heard, refused_lived, released_lived, took_lived, tracked_heard, turned_lived}
use Rattle.admit_drive.proofs.BalanceLemmas.{balance_covers, move_balance}
use Rattle.admit_drive.proofs.ShardLemmas.{after_of, before_of, replaces, step_of}
use Rattle.admit_drive.proofs.ReplyLemmas.{reply_fits}

-- ---- an answer

-- whose rules judge it stays, and what its answers tell of it
pub record IsSameLived (connection after : Connection Reference) : Type 0 where
  pub setup : after.setup ≡ connection.setup
  pub samples : after.samples ≡ connection.samples
  pub lived : IsLived after

module _ (connection : Connection Reference) (lived : IsLived connection) where
  heard_other : (answer : Answer) → is_tracked answer ≡ false → IsSameLived connection (took connection answer None)
  heard_other answer other = record { setup = refl; samples = refl; lived = took_lived connection answer None lived (other_heard connection.progress.held (asks connection) answer other) }

  given_back : (now : ℕ) (slot : Slot) (call : Call) (entry : Option (ℕ × Reference)) → held_at connection.progress.held slot ≡ entry → need connection ≡ needs.Release slot → call_by (λ ticket. events.Release now ticket) entry ≡ Some call
      → IsLived (heard connection call.shard replies.Released)
  given_back now slot call None at is asks_it = cc
  given_back now slot call (Some entry) at is asks_it = released_lived connection slot entry lived is at

  heard_released : (shards now : ℕ) (wanted : Need) (call : Call) → need connection ≡ wanted → call_of shards now connection.progress.held wanted ≡ Some call → fits wanted replies.Released ≡ true → IsSameLived connection (heard connection call.shard replies.Released)
  heard_released shards now (needs.Release slot) call is asks_it fit = record { setup = refl; samples = refl; lived = given_back now slot call (held_at connection.progress.held slot) refl is asks_it }
  heard_released shards now (needs.Track slot table key) call is asks_it fit = absurd (false≢true fit)
  heard_released shards now (needs.Get table key) call is asks_it fit = absurd (false≢true fit)
  heard_released shards now (needs.Look slot) call is asks_it fit = absurd (false≢true fit)
  heard_released shards now (needs.Count slot act) call is asks_it fit = absurd (false≢true fit)
  heard_released shards now needs.Rest call is asks_it fit = absurd (false≢true fit)
  heard_released shards now needs.Turn call is asks_it fit = absurd (false≢true fit)
  heard_released shards now needs.Finished call is asks_it fit = absurd (false≢true fit)

  heard_lived : (shards now : ℕ) (wanted : Need) (call : Call) (reply : Reply) → need connection ≡ wanted → call_of shards now connection.progress.held wanted ≡ Some call → fits wanted reply ≡ true → IsSameLived connection (heard connection call.shard reply)
  heard_lived shards now wanted call (replies.Tracked given row) is asks_it fit =
      let reference : Reference = record { shard = call.shard; ticket = given } in
      record { setup = refl; samples = refl; lived = took_lived connection answers.Tracked (Some reference) lived (tracked_heard connection.progress.held (asks connection) reference) }
  heard_lived shards now wanted call replies.Released is asks_it fit = heard_released shards now wanted call is asks_it fit
  heard_lived shards now wanted call replies.Absent is asks_it fit = heard_other answers.Absent refl
  heard_lived shards now wanted call (replies.Row row) is asks_it fit = heard_other (answers.Row row) refl
  heard_lived shards now wanted call replies.NoRefs is asks_it fit = heard_other answers.Untracked refl
  heard_lived shards now wanted call replies.Full is asks_it fit = heard_other answers.Untracked refl
  heard_lived shards now wanted call (replies.Value value) is asks_it fit = heard_other (answers.Value value) refl
  heard_lived shards now wanted call (replies.NotSettable datum) is asks_it fit = heard_other answers.Untracked refl
  heard_lived shards now wanted call (replies.NotStored datum) is asks_it fit = heard_other answers.Untracked refl
  heard_lived shards now wanted call (replies.Written created) is asks_it fit = heard_other answers.Untracked refl
  heard_lived shards now wanted call replies.InUse is asks_it fit = heard_other answers.Untracked refl
  heard_lived shards now wanted call replies.Removed is asks_it fit = heard_other answers.Untracked refl
  heard_lived shards now wanted call (replies.Cleared removed kept) is asks_it fit = heard_other answers.Untracked refl
  heard_lived shards now wanted call (replies.Rows used rows) is asks_it fit = heard_other answers.Untracked refl
  heard_lived shards now wanted call (replies.Expired count) is asks_it fit = heard_other answers.Untracked refl

  -- ---- a move

  module _ (setup : Setup) (old new : List TableState) (are : AreTablesOf setup old) where
    made_lived : (shards now : ℕ) (wanted : Need) (call : Option Call) (after : Connection Reference) (was_refused : Bool) → need connection ≡ wanted → call_of shards now connection.progress.held wanted ≡ call
        → Makes old connection call new after was_refused → IsSameLived connection after
    made_lived shards now wanted call after true is asks_it makes =
        let stays : IsSameLived connection (refused connection None) = record { setup = refl; samples = refl; lived = refused_lived connection lived } in
        subst (λ (c : Connection Reference). IsSameLived connection c) (sym makes.2) stays
    made_lived shards now wanted None after false is asks_it makes = absurd makes
    made_lived shards now wanted (Some call) after false is asks_it makes =
        let legal = legal_at setup old call.table call.shard (before_of makes.1) are (replaces old new call makes.0 makes.1).was in
        let fit : fits wanted makes.0 ≡ true = reply_fits shards now connection.progress.held wanted call (before_of makes.1) (after_of makes.1) makes.0 asks_it legal (step_of makes.1) in
        subst (λ (c : Connection Reference). IsSameLived connection c) (sym makes.2) (heard_lived shards now wanted call makes.0 is asks_it fit)

    the_same : IsSameLived connection connection
    the_same = record { setup = refl; samples = refl; lived = lived }

    turns : IsSameLived connection (turned connection)
    turns = record { setup = refl; samples = refl; lived = turned_lived connection lived }

    lived_by : (now : ℕ) (wanted : Need) (after : Connection Reference) (was_refused : Bool) → need connection ≡ wanted → MovesBy now old connection wanted new after was_refused → IsSameLived connection after
    lived_by now needs.Rest after was_refused is moves = subst (λ (c : Connection Reference). IsSameLived connection c) (sym moves.1) the_same
    lived_by now needs.Finished after was_refused is moves = subst (λ (c : Connection Reference). IsSameLived connection c) (sym moves.1) the_same
    lived_by now needs.Turn after was_refused is moves = subst (λ (c : Connection Reference). IsSameLived connection c) (sym moves.1) turns
    lived_by now (needs.Get table key) after was_refused is moves = made_lived connection.setup.shards now (needs.Get table key) _ after was_refused is refl moves
    lived_by now (needs.Track slot table key) after was_refused is moves = made_lived connection.setup.shards now (needs.Track slot table key) _ after was_refused is refl moves
    lived_by now (needs.Look slot) after was_refused is moves = made_lived connection.setup.shards now (needs.Look slot) _ after was_refused is refl moves
    lived_by now (needs.Count slot act) after was_refused is moves = made_lived connection.setup.shards now (needs.Count slot act) _ after was_refused is refl moves
    lived_by now (needs.Release slot) after was_refused is moves = made_lived connection.setup.shards now (needs.Release slot) _ after was_refused is refl moves

pub move_lived : (now : ℕ) (setup : Setup) (old : List TableState) (connection : Connection Reference) (new : List TableState) (after : Connection Reference) (was_refused : Bool) → AreTablesOf setup old → IsLived connection
    → Moves now old connection new after was_refused → IsSameLived connection after
move_lived now setup old connection new after was_refused are lived moves = lived_by connection lived setup old new are now (need connection) after was_refused refl moves

-- ---- what is kept

-- from what stood before, what stands after: as much less or more is out as it holds less or more, the tables are those of
-- the setup, what it holds is out, and its answers tell the same of it
pub record IsKept (setup : Setup) (old : List TableState) (connection : Connection Reference) (new : List TableState) (after : Connection Reference) : Type 0 where
  pub balance : (reference : ℕ × Reference) → times_by reference after.progress.held + times_out reference old ≡ times_by reference connection.progress.held + times_out reference new
  pub tables : AreTablesOf setup new
  pub covered : IsCovered new after.progress.held
  pub same : IsSameLived connection after

pub move_kept : (now : ℕ) (setup : Setup) (old : List TableState) (connection : Connection Reference) (new : List TableState) (after : Connection Reference) (was_refused : Bool) → now < 2 ^ 62 → AreTablesOf setup old
    → IsCovered old connection.progress.held → IsLived connection → Moves now old connection new after was_refused → IsKept setup old connection new after
move_kept now setup old connection new after was_refused moment are covered lived moves =
    let balanced = move_balance now setup old connection new after was_refused are covered lived.given (lived_free connection lived) moves in
    record {
      balance = balanced.balance;
      tables = move_tables now setup old connection new after was_refused are moves;
      covered = balance_covers old new connection.progress after.progress balanced covered;
      same = move_lived now setup old connection new after was_refused are lived moves;
    }

-- ---- several moves

both : (first_held first_out middle_held middle_out last_held last_out : ℕ) → middle_held + first_out ≡ first_held + middle_out → last_held + middle_out ≡ middle_held + last_out → last_held + first_out ≡ first_held + last_out
both first_held first_out middle_held middle_out last_held last_out one other = omega (arith, one, other)

kept_both : (setup : Setup) (first middle last : List TableState) (connection next after : Connection Reference) → IsKept setup first connection middle next → IsKept setup middle next last after → IsKept setup first connection last after
kept_both setup first middle last connection next after one other = record {
  balance = λ reference. both (times_by reference connection.progress.held) (times_out reference first) (times_by reference next.progress.held) (times_out reference middle) (times_by reference after.progress.held) (times_out reference last)
      (one.balance reference) (other.balance reference);
  tables = other.tables;
  covered = other.covered;
  same = record { setup = other.same.setup ∙ one.same.setup; samples = other.same.samples ∙ one.same.samples; lived = other.same.lived };
}

kept_same : (setup : Setup) (tables : List TableState) (connection : Connection Reference) → AreTablesOf setup tables → IsCovered tables connection.progress.held → IsLived connection → IsKept setup tables connection tables connection
kept_same setup tables connection are covered lived = record { balance = λ reference. refl; tables = are; covered = covered; same = record { setup = refl; samples = refl; lived = lived } }

pub goes_kept : (now : ℕ) (setup : Setup) (count : ℕ) (old : List TableState) (connection : Connection Reference) (new : List TableState) (after : Connection Reference) → now < 2 ^ 62 → AreTablesOf setup old
    → IsCovered old connection.progress.held → IsLived connection → Goes now count old connection new after → IsKept setup old connection new after
goes_kept now setup zero old connection new after moment are covered lived goes =
    subst (λ ts. IsKept setup old connection ts after) (sym goes.0) (subst (λ (c : Connection Reference). IsKept setup old connection old c) (sym goes.1) (kept_same setup old connection are covered lived))
goes_kept now setup (suc count) old connection new after moment are covered lived goes =
    let one = move_kept now setup old connection goes.0 goes.1 goes.2 moment are covered lived goes.3 in
    kept_both setup old goes.0 new connection goes.1 after one (goes_kept now setup count goes.0 goes.1 new after moment one.tables one.covered one.same.lived goes.4)

pub rest_kept : (now : ℕ) (setup : Setup) (old : List TableState) (connection : Connection Reference) (new : List TableState) (after : Connection Reference) → now < 2 ^ 62 → AreTablesOf setup old
    → IsCovered old connection.progress.held → IsLived connection → ComesToRest now old connection new after → IsKept setup old connection new after
rest_kept now setup old connection new after moment are covered lived comes = goes_kept now setup comes.count old connection new after moment are covered lived comes.goes
