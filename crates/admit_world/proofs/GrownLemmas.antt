-- How the events of one shard go on, as any shard answers.
use Rattle.std.proofs.Common.{◌≡◌, ℕ, refl, sym, ap, subst, ◌∙◌, Bool, true, false, nat_eq, ◌&&◌, List, [], ◌∷◌, ◌++◌, Some}
use Rattle.std.specs.List.{list_any}
use Rattle.std.proofs.lemmas.Bool.{false≢true}
use Rattle.stick_model.specs.Key.{Key}
use Rattle.stick_model.specs.Passed.{passing_look, passing_looks}
use Rattle.stick_model.specs.Run.{Run}
use Rattle.stick_model.specs.State.{State, empty_table, same_ticket}
use Rattle.stick_model.specs.declared.events.Event.{Event}
use Rattle.stick_model.specs.declared.replies.Reply.{Reply}
use Rattle.stick_model.specs.declared.rows.Ticket.{Ticket}
use Rattle.stick_model.specs.declared.specification.Spec.{Spec}
use Rattle.stick_model.proofs.RunLemmas.{run_more}
use Rattle.stick_model.proofs.TestLemmas.{eq-from}
use Rattle.admit_drive.specs.Calls.{AnswersAt}
use Rattle.admit_drive.specs.Tables.{TableState, shard_at}
use Rattle.admit_port.specs.Calls.{Call}
use Rattle.admit_drive.proofs.SumLemmas.{some_same}
use Rattle.admit_drive.proofs.CallLemmas.{eq_self}
use Rattle.admit_drive.proofs.ShardLemmas.{Replaces, after_of, before_of, replaces, replaces_book, step_of}
use Rattle.admit_world.proofs.RecordLemmas.{IsRecorded, recorded_more}
use Rattle.admit_world.proofs.StayLemmas.{passed_last, passed_more}

-- the shard has come from an empty table by these events
pub record IsRun (table part : ℕ) (tables : List TableState) (spec : Spec) (events : List Event) (replies : List Reply) : Type 0 where
  pub live : State
  pub at : shard_at tables table part ≡ Some live
  pub run : Run (empty_table spec) events replies live
  pub recorded : IsRecorded table part tables spec events replies

-- with an answer of some shard it has come by later ones; looks that passed have passed for ever, and one of its own may pass
pub record IsGrown (table part limit : ℕ) (key : Key) (spec : Spec) (made : List Event) (told : List Reply) (tables : List TableState) (call : Call) (reply : Reply) : Type 0 where
  pub events : List Event
  pub replies : List Reply
  pub comes : IsRun table part tables spec events replies
  pub more : (ticket : Ticket) → list_any (same_ticket ticket) (passing_looks key limit made told) ≡ true → list_any (same_ticket ticket) (passing_looks key limit events replies) ≡ true
  pub last : call.table ≡ table → call.shard ≡ part → (ticket : Ticket) → list_any (same_ticket ticket) (passing_look key limit call.event reply) ≡ true → list_any (same_ticket ticket) (passing_looks key limit events replies) ≡ true

-- a shard's own run, before it answers
pub own_run : (table part : ℕ) (old new : List TableState) (call : Call) (reply : Reply) (spec : Spec) (made : List Event) (told : List Reply) (answers_it : AnswersAt old call reply new) → IsRun table part old spec made told
    → call.table ≡ table → call.shard ≡ part → Run (empty_table spec) made told (before_of answers_it)
own_run table part old new call reply spec made told answers_it comes t s =
    let was : comes.live ≡ before_of answers_it = some_same comes.live (before_of answers_it) (sym comes.at ∙ (λ k. shard_at old (sym t k) (sym s k)) ∙ (replaces old new call reply answers_it).was) in
    subst (Run (empty_table spec) made told) was comes.run

pub grown : (table part limit : ℕ) (key : Key) (old new : List TableState) (call : Call) (reply : Reply) (spec : Spec) (made : List Event) (told : List Reply) → AnswersAt old call reply new → IsRun table part old spec made told
    → IsGrown table part limit key spec made told new call reply
grown table part limit key old new call reply spec made told answers_it comes = by (nat_eq table call.table) (nat_eq part call.shard) refl refl
  where
    replaced : Replaces old new call.table call.shard (before_of answers_it) (after_of answers_it)
    replaced = replaces old new call reply answers_it

    stays : (nat_eq table call.table && nat_eq part call.shard) ≡ false → (call.table ≡ table → call.shard ≡ part → ⊥) → IsGrown table part limit key spec made told new call reply
    stays differ never =
        let before = comes.recorded in
        let recorded : IsRecorded table part new spec made told = record { book = before.book; at = (replaces_book old new call reply answers_it).others table part differ ∙ before.at; base = before.base; calls = before.calls } in
        record {
          events = made;
          replies = told;
          comes = record { live = comes.live; at = replaced.others table part differ ∙ comes.at; run = comes.run; recorded = recorded };
          more = λ ticket passed. passed;
          last = λ t s ticket passes. absurd (never t s);
        }

    by : (a b : Bool) → nat_eq table call.table ≡ a → nat_eq part call.shard ≡ b → IsGrown table part limit key spec made told new call reply
    by true true t s =
        let in_table : table ≡ call.table = eq-from table call.table t in
        let in_shard : part ≡ call.shard = eq-from part call.shard s in
        let run : Run (empty_table spec) made told (before_of answers_it) = own_run table part old new call reply spec made told answers_it comes (sym in_table) (sym in_shard) in
        record {
          events = made ++ call.event ∷ [];
          replies = told ++ reply ∷ [];
          comes = record {
            live = after_of answers_it;
            at = (λ k. shard_at new (in_table k) (in_shard k)) ∙ replaced.is;
            run = run_more (empty_table spec) made told (before_of answers_it) call.event reply (after_of answers_it) run (step_of answers_it);
            recorded = recorded_more table part old new call reply spec made told answers_it comes.recorded (before_of answers_it) run in_table in_shard;
          };
          more = λ ticket passed. passed_more (same_ticket ticket) key limit (empty_table spec) made told (before_of answers_it) call.event reply run passed;
          last = λ t s ticket passes. passed_last (same_ticket ticket) key limit (empty_table spec) made told (before_of answers_it) call.event reply run passes;
        }
    by true false t s = stays (λ k. t k && s k) (λ here there. false≢true (sym s ∙ ap (nat_eq part) there ∙ eq_self part))
    by false b t s = stays (λ k. t k && s k) (λ here there. false≢true (sym t ∙ ap (nat_eq table) here ∙ eq_self table))
