-- As a connection goes on, the run of a key's shard goes on, and what it holds by sc0 is still of its source's key.
use Rattle.std.proofs.Common.{◌≡◌, ℕ, refl, sym, ap, subst, ◌∙◌, Bool, true, false, List, Option, Some, None, is_some}
use Rattle.std.specs.List.{list_any}
use Rattle.stick_key.specs.Shard.{shard}
use Rattle.stored_data.specs.Stored.{is_column}
use Rattle.stored_data.specs.declared.datum.Datum.TheVariants.{ConnCur}
use Rattle.stick_model.specs.Key.{Key}
use Rattle.stick_model.specs.Passed.{passing_looks}
use Rattle.stick_model.specs.State.{same_ticket}
use Rattle.stick_model.specs.declared.events.Event.{Event}
use Rattle.stick_model.specs.declared.replies.Reply.{Reply}
use Rattle.stick_model.specs.declared.rows.Ticket.{Ticket}
use Rattle.stick_model.specs.declared.specification.Spec.{Spec}
use Rattle.rule_model.specs.declared.sections.Setup.{Setup}
use Rattle.rule_eval.specs.Limit.{LimitsFirst}
use Rattle.admit_core.specs.Connection.{Connection, asks, need}
use Rattle.admit_core.specs.declared.held.Held.{Held}
use Rattle.admit_core.specs.declared.need.Need.{Need}
use Rattle.admit_core.specs.declared.need.Need.TheVariants as needs
use Rattle.admit_drive.specs.Calls.{call_of, fits}
use Rattle.admit_world.specs.Limit.{key_held}
use Rattle.admit_drive.specs.Lived.{IsLived}
use Rattle.admit_drive.specs.Moves.{Makes, Moves, MovesBy}
use Rattle.admit_drive.specs.Tables.{AreTablesOf, TableState}
use Rattle.admit_port.specs.Calls.{Call}
use Rattle.shard_port.specs.declared.reference.Reference.{Reference}
use Rattle.admit_world.proofs.GrownLemmas.{IsGrown, IsRun, grown}
use Rattle.admit_world.proofs.HeardLemmas.{heard_still, tracked_still}
use Rattle.admit_drive.proofs.HeldLemmas.{refused_same}
use Rattle.admit_drive.proofs.CallLemmas.{legal_at}
use Rattle.admit_world.proofs.LimitLemmas.{HasTracked, Looked}
use Rattle.admit_drive.proofs.ShardLemmas.{after_of, before_of, replaces, step_of}
use Rattle.admit_drive.proofs.ReplyLemmas.{reply_fits}
use Rattle.admit_world.proofs.ShardLemmas.{keyed_stays}

-- the shard has come by later events; looks that passed have passed for ever; a reference that stays out stays of its key;
-- and what the connection holds by sc0, where that is out, is of its source's key
pub record HasGone (setup : Setup) (table limit : ℕ) (key : Key) (spec : Spec) (made : List Event) (told : List Reply) (old new : List TableState) (after : Connection Reference) : Type 0 where
  pub events : List Event
  pub replies : List Reply
  pub comes : IsRun table (shard key setup.shards) new spec events replies
  pub more : (ticket : Ticket) → list_any (same_ticket ticket) (passing_looks key limit made told) ≡ true → list_any (same_ticket ticket) (passing_looks key limit events replies) ≡ true
  pub keyed : (entry : ℕ × Reference) (of_key : Key) → key_held old (Some entry) ≡ Some of_key → is_some (key_held new (Some entry)) ≡ true → key_held new (Some entry) ≡ Some of_key
  pub moved : (entry : ℕ × Reference) → after.progress.held.sc0 ≡ Some entry → is_some (key_held new (Some entry)) ≡ true → HasTracked setup table limit key new (passing_looks key limit events replies) after entry

module _ (setup : Setup) (name : List ℕ) (table limit : ℕ) (key : Key) (old : List TableState) (spec : Spec) (made : List Event) (told : List Reply) (connection : Connection Reference) (first : LimitsFirst setup name table limit) (are : AreTablesOf setup old) (stores : is_column spec.columns ConnCur ≡ true) (comes : IsRun table (shard key setup.shards) old spec made told) (lived : IsLived connection) (ours : connection.setup ≡ setup) (before : (entry : ℕ × Reference) → connection.progress.held.sc0 ≡ Some entry → HasTracked setup table limit key old (passing_looks key limit made told) connection entry) where
  abbrev Goes_on : List TableState → Connection Reference → Type 0
  Goes_on new after = HasGone setup table limit key spec made told old new after

  -- no shard answers
  stays : (new : List TableState) (after : Connection Reference) → new ≡ old → after.samples ≡ connection.samples → after.progress.held.sc0 ≡ connection.progress.held.sc0 → after.answers ≡ connection.answers → Goes_on new after
  stays new after is samples held given =
      let passed : List Ticket = passing_looks key limit made told in
      let kept : Goes_on old after = record {
        events = made;
        replies = told;
        comes = comes;
        more = λ ticket passes. passes;
        keyed = λ entry of_key was out. was;
        moved = λ entry at out.
            let tracked : HasTracked setup table limit key old passed connection entry = before entry (sym held ∙ at) in
            tracked_still setup table limit key old old passed passed connection after entry tracked samples tracked.keyed (λ same_source. subst (Looked limit passed entry.1.ticket) (sym given) (tracked.looked same_source));
      } in
      subst (λ (ts : List TableState). Goes_on ts after) (sym is) kept

  made_gone : (new : List TableState) → AreTablesOf setup new → (now : ℕ) (wanted : Need) (call : Option Call) (after : Connection Reference) (was_refused : Bool) → need connection ≡ wanted
      → call_of connection.setup.shards now connection.progress.held wanted ≡ call → Makes old connection call new after was_refused → Goes_on new after
  made_gone new will now wanted call after true is asks_it makes =
      let same = refused_same (asks connection) connection.progress lived.given in
      stays new after makes.1 (ap (λ (c : Connection Reference). c.samples) makes.2) (ap (λ (c : Connection Reference). c.progress.held.sc0) makes.2 ∙ ap (λ (h : Held Reference). h.sc0) same.0) (ap (λ (c : Connection Reference). c.answers) makes.2)
  made_gone new will now wanted None after false is asks_it makes = absurd makes
  made_gone new will now wanted (Some call) after false is asks_it makes =
      let grows : IsGrown table (shard key setup.shards) limit key spec made told new call makes.0 = grown table (shard key setup.shards) limit key old new call makes.0 spec made told makes.1 comes in
      let legal = legal_at setup old call.table call.shard (before_of makes.1) are (replaces old new call makes.0 makes.1).was in
      let fit : fits wanted makes.0 ≡ true = reply_fits connection.setup.shards now connection.progress.held wanted call (before_of makes.1) (after_of makes.1) makes.0 asks_it legal (step_of makes.1) in
      record {
        events = grows.events;
        replies = grows.replies;
        comes = grows.comes;
        more = grows.more;
        keyed = λ entry of_key was out. keyed_stays old new call makes.0 makes.1 entry of_key was out;
        moved = subst (λ (c : Connection Reference). (entry : ℕ × Reference) → c.progress.held.sc0 ≡ Some entry → is_some (key_held new (Some entry)) ≡ true → HasTracked setup table limit key new (passing_looks key limit grows.events grows.replies) c entry) (sym makes.2)
            (heard_still setup name table limit key old new spec made told connection first are will stores comes lived ours before call makes.0 makes.1 grows now wanted makes.0 refl is asks_it fit);
      }

  gone_by : (new : List TableState) → AreTablesOf setup new → (now : ℕ) (wanted : Need) (after : Connection Reference) (was_refused : Bool) → need connection ≡ wanted → MovesBy now old connection wanted new after was_refused → Goes_on new after
  gone_by new will now needs.Rest after was_refused is moves = stays new after moves.0 (ap (λ (c : Connection Reference). c.samples) moves.1) (ap (λ (c : Connection Reference). c.progress.held.sc0) moves.1) (ap (λ (c : Connection Reference). c.answers) moves.1)
  gone_by new will now needs.Finished after was_refused is moves = stays new after moves.0 (ap (λ (c : Connection Reference). c.samples) moves.1) (ap (λ (c : Connection Reference). c.progress.held.sc0) moves.1) (ap (λ (c : Connection Reference). c.answers) moves.1)
  gone_by new will now needs.Turn after was_refused is moves = stays new after moves.0 (ap (λ (c : Connection Reference). c.samples) moves.1) (ap (λ (c : Connection Reference). c.progress.held.sc0) moves.1) (ap (λ (c : Connection Reference). c.answers) moves.1)
  gone_by new will now (needs.Get asked subject) after was_refused is moves = made_gone new will now (needs.Get asked subject) _ after was_refused is refl moves
  gone_by new will now (needs.Track slot asked subject) after was_refused is moves = made_gone new will now (needs.Track slot asked subject) _ after was_refused is refl moves
  gone_by new will now (needs.Look slot) after was_refused is moves = made_gone new will now (needs.Look slot) _ after was_refused is refl moves
  gone_by new will now (needs.Count slot act) after was_refused is moves = made_gone new will now (needs.Count slot act) _ after was_refused is refl moves
  gone_by new will now (needs.Release slot) after was_refused is moves = made_gone new will now (needs.Release slot) _ after was_refused is refl moves

  pub move_gone : (new : List TableState) → AreTablesOf setup new → (now : ℕ) (after : Connection Reference) (was_refused : Bool) → Moves now old connection new after was_refused → Goes_on new after
  move_gone new will now after was_refused moves = gone_by new will now (need connection) after was_refused refl moves
