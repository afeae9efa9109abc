-- A move at which nothing is refused leads to one state, but for the slots of references.
use Rattle.std.proofs.Common.{◌≡◌, ◌⊎◌, inl, inr, ℕ, refl, sym, ap, ◌∙◌, Bool, true, false, cond, nat_eq, ◌&&◌, List, Option, Some, None}
use Rattle.std.specs.Prelude.{option_map}
use Rattle.stick_model.specs.Legal.{IsLegal}
use Rattle.stick_model.specs.State.{State}
use Rattle.stick_model.specs.Step.{Outcome, after}
use Rattle.stick_model.specs.declared.replies.Reply.{Reply}
use Rattle.stick_model.proofs.TestLemmas.{eq-from}
use Rattle.rule_model.specs.declared.sections.Setup.{Setup}
use Rattle.admit_core.specs.Connection.{Connection, need, turned}
use Rattle.admit_core.specs.declared.need.Need.{Need}
use Rattle.admit_core.specs.declared.need.Need.TheVariants as needs
use Rattle.admit_drive.specs.Calls.{AnswersAt, call_of, heard}
use Rattle.admit_drive.specs.Moves.{Makes, Moves, MovesBy}
use Rattle.admit_drive.specs.Tables.{AreTablesOf, TableState, shard_at}
use Rattle.admit_port.specs.Calls.{Call}
use Rattle.shard_port.specs.declared.reference.Reference.{Reference}
use Rattle.admit_drive.proofs.SumLemmas.{some_same}
use Rattle.admit_drive.proofs.CallLemmas.{legal_at}
use Rattle.admit_drive.proofs.ShardLemmas.{after_of, before_of, replaces, step_of}
use Rattle.admit_drive.proofs.PlainConnectionLemmas.{call_asked, call_plain, heard_plain, need_plain, plain_call, plain_connection, plain_held}
use Rattle.admit_drive.proofs.PlainLemmas.{plain, plain_event, plain_reply, step_plain}

-- what the shards are, without slots
abbrev pub View : Type 0
View = ℕ → ℕ → Option State

abbrev pub view : List TableState → View
view tables table part = option_map plain (shard_at tables table part)

abbrev pub SameView : View → View → Type 0
SameView one other = (table part : ℕ) → one table part ≡ other table part

-- ---- a move, without slots: nothing is asked, or a shard answers

abbrev pub quiet_of : Connection Reference → Need → Connection Reference
quiet_of connection needs.Turn = turned connection
quiet_of connection wanted = connection

abbrev pub asked_of : ℕ → Connection Reference → Option Call
asked_of now connection = call_of connection.setup.shards now connection.progress.held (need connection)

pub record IsQuiet (now : ℕ) (old : View) (connection : Connection Reference) (new : View) (later : Connection Reference) : Type 0 where
  pub none : asked_of now connection ≡ None
  pub becomes : later ≡ quiet_of connection (need connection)
  pub same : SameView new old

pub record IsTold (now : ℕ) (old : View) (connection : Connection Reference) (new : View) (later : Connection Reference) : Type 0 where
  pub call : Call
  pub before : State
  pub asked : asked_of now connection ≡ Some call
  pub at : old call.table call.shard ≡ Some before
  pub becomes : later ≡ heard connection call.shard (after before call.event 0).0
  pub is : (table part : ℕ) → new table part ≡ cond (nat_eq table call.table && nat_eq part call.shard) (Some (after before call.event 0).1) (old table part)

abbrev pub Moved : ℕ → View → Connection Reference → View → Connection Reference → Type 0
Moved now old connection new later = IsQuiet now old connection new later ⊎ IsTold now old connection new later

-- where it leads is determined
pub record IsOne (one : Connection Reference) (other : Connection Reference) (first second : View) : Type 0 where
  pub later : one ≡ other
  pub view_is : SameView first second

call_same : (a b : Call) → Some a ≡ Some b → a ≡ b
call_same a b e = cc

both_told : (now : ℕ) (connection one other : Connection Reference) (old again first second : View) → SameView old again → IsTold now old connection first one → IsTold now again connection second other → IsOne one other first second
both_told now connection one other old again first second same a b =
    let call : a.call ≡ b.call = call_same a.call b.call (sym a.asked ∙ b.asked) in
    let before : a.before ≡ b.before = some_same a.before b.before (sym a.at ∙ same a.call.table a.call.shard ∙ (λ k. again (call k).table (call k).shard) ∙ b.at) in
    record {
      later = a.becomes ∙ (λ k. heard connection (call k).shard (after (before k) (call k).event 0).0) ∙ sym b.becomes;
      view_is = λ table part. a.is table part ∙ (λ k. cond (nat_eq table (call k).table && nat_eq part (call k).shard) (Some (after (before k) (call k).event 0).1) (same table part k)) ∙ sym (b.is table part);
    }

pub moved_once : (now : ℕ) (connection one other : Connection Reference) (old again first second : View) → SameView old again → Moved now old connection first one → Moved now again connection second other → IsOne one other first second
moved_once now connection one other old again first second same (inl a) (inl b) = record { later = a.becomes ∙ sym b.becomes; view_is = λ table part. a.same table part ∙ same table part ∙ sym (b.same table part) }
moved_once now connection one other old again first second same (inl a) (inr b) = let never : None ≡ Some b.call = sym a.none ∙ b.asked in cc
moved_once now connection one other old again first second same (inr a) (inl b) = let never : None ≡ Some a.call = sym b.none ∙ a.asked in cc
moved_once now connection one other old again first second same (inr a) (inr b) = both_told now connection one other old again first second same a b

-- ---- a move is one

module _ (setup : Setup) (now : ℕ) (old new : List TableState) (connection later : Connection Reference) (are : AreTablesOf setup old) where
  abbrev Plainly : Type 0
  Plainly = Moved now (view old) (plain_connection connection) (view new) (plain_connection later)

  asked_plain : (wanted : Need) → need connection ≡ wanted → asked_of now (plain_connection connection) ≡ option_map plain_call (call_of connection.setup.shards now connection.progress.held wanted)
  asked_plain wanted is = ap (call_of connection.setup.shards now (plain_held connection.progress.held)) (need_plain connection ∙ is) ∙ call_plain connection.setup.shards now connection.progress.held wanted

  quiet : (wanted : Need) → need connection ≡ wanted → call_of connection.setup.shards now connection.progress.held wanted ≡ None → new ≡ old → plain_connection later ≡ quiet_of (plain_connection connection) wanted → Plainly
  quiet wanted is none same becomes =
      inl (record {
        none = asked_plain wanted is ∙ ap (option_map plain_call) none;
        becomes = becomes ∙ ap (quiet_of (plain_connection connection)) (sym (need_plain connection ∙ is));
        same = λ table part. ap (λ tables. view tables table part) same;
      })

  told : (wanted : Need) (call : Call) (reply : Reply) → need connection ≡ wanted → call_of connection.setup.shards now connection.progress.held wanted ≡ Some call → (answers_it : AnswersAt old call reply new) → later ≡ heard connection call.shard reply → Plainly
  told wanted call reply is asked answers_it becomes =
      let before : State = before_of answers_it in
      let replaced = replaces old new call reply answers_it in
      let legal : IsLegal before = legal_at setup old call.table call.shard before are replaced.was in
      let step : after (plain before) (plain_event call.event) 0 ≡ (plain_reply reply, plain (after_of answers_it)) =
      step_plain before call.event reply (after_of answers_it) (call_asked connection.setup.shards now connection.progress.held wanted call asked) legal (step_of answers_it) in
      inr (record {
        call = plain_call call;
        before = plain before;
        asked = asked_plain wanted is ∙ ap (option_map plain_call) asked;
        at = ap (option_map plain) replaced.was;
        becomes = ap plain_connection becomes ∙ sym (heard_plain connection call.shard reply) ∙ ap (λ (o : Outcome). heard (plain_connection connection) call.shard o.0) (sym step);
        is = λ table part. placed table part (nat_eq table call.table) (nat_eq part call.shard) refl refl ∙ ap (λ (o : Outcome). cond (nat_eq table call.table && nat_eq part call.shard) (Some o.1) (view old table part)) (sym step);
      })
    where
      placed : (table part : ℕ) (a b : Bool) → nat_eq table call.table ≡ a → nat_eq part call.shard ≡ b → view new table part ≡ cond (nat_eq table call.table && nat_eq part call.shard) (Some (plain (after_of answers_it))) (view old table part)
      placed table part true true t s =
          (λ k. view new (eq-from table call.table t k) (eq-from part call.shard s k)) ∙ ap (option_map plain) (replaces old new call reply answers_it).is
          ∙ sym (λ k. cond (t k && s k) (Some (plain (after_of answers_it))) (view old table part))
      placed table part true false t s =
          ap (option_map plain) ((replaces old new call reply answers_it).others table part (λ k. t k && s k)) ∙ sym (λ k. cond (t k && s k) (Some (plain (after_of answers_it))) (view old table part))
      placed table part false b t s =
          ap (option_map plain) ((replaces old new call reply answers_it).others table part (λ k. t k && s k)) ∙ sym (λ k. cond (t k && s k) (Some (plain (after_of answers_it))) (view old table part))

  made : (wanted : Need) (call : Option Call) → need connection ≡ wanted → call_of connection.setup.shards now connection.progress.held wanted ≡ call → Makes old connection call new later false → Plainly
  made wanted None is asked makes = absurd makes
  made wanted (Some call) is asked makes = told wanted call makes.0 is asked makes.1 makes.2

  moved_by : (wanted : Need) → need connection ≡ wanted → MovesBy now old connection wanted new later false → Plainly
  moved_by needs.Rest is moves = quiet needs.Rest is refl moves.0 (ap plain_connection moves.1)
  moved_by needs.Finished is moves = quiet needs.Finished is refl moves.0 (ap plain_connection moves.1)
  moved_by needs.Turn is moves = quiet needs.Turn is refl moves.0 (ap plain_connection moves.1)
  moved_by (needs.Get table key) is moves = made (needs.Get table key) _ is refl moves
  moved_by (needs.Track slot table key) is moves = made (needs.Track slot table key) _ is refl moves
  moved_by (needs.Look slot) is moves = made (needs.Look slot) _ is refl moves
  moved_by (needs.Count slot act) is moves = made (needs.Count slot act) _ is refl moves
  moved_by (needs.Release slot) is moves = made (needs.Release slot) _ is refl moves

  pub move_plain : Moves now old connection new later false → Plainly
  move_plain moves = moved_by (need connection) refl moves

-- ---- what is seen of shards

pub records_plain : (o : Option State) → option_map (λ (s : State). s.records) (option_map plain o) ≡ option_map (λ (s : State). s.records) o
records_plain None = refl
records_plain (Some state) = refl
