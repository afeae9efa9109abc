-- What a reference that stays out is, and what its looks tell, as any shard answers.
use Rattle.std.proofs.Common.{◌≡◌, ℕ, ◌≤◌, refl, sym, ap, ◌∙◌, Bool, true, false, nat_eq, ◌&&◌, List, [], ◌∷◌, ◌++◌, Option, Some, is_some}
use Rattle.std.specs.List.{list_any}
use Rattle.std.specs.Option.{option_and_then}
use Rattle.stick_model.specs.Key.{Key}
use Rattle.stick_model.specs.State.{State, key_of, same_ticket}
use Rattle.stick_model.specs.declared.replies.Reply.{Reply}
use Rattle.stick_model.specs.declared.rows.Row.{Row}
use Rattle.stick_model.specs.declared.rows.Ticket.{Ticket}
use Rattle.stick_model.proofs.TestLemmas.{eq-from}
use Rattle.stored_data.specs.declared.datum.Datum.TheVariants.{ConnCur}
use Rattle.rule_eval.specs.Readings.{value_in}
use Rattle.rule_eval.specs.declared.wants.Answer.{Answer}
use Rattle.rule_eval.specs.declared.wants.Answer.TheVariants as answers
use Rattle.admit_drive.specs.Calls.{AnswersAt}
use Rattle.admit_world.specs.Limit.{key_held}
use Rattle.admit_drive.specs.Tables.{TableState, shard_at}
use Rattle.admit_port.specs.Calls.{Call}
use Rattle.shard_port.specs.declared.reference.Reference.{Reference}
use Rattle.admit_world.proofs.LimitLemmas.{Looked}
use Rattle.admit_drive.proofs.ShardLemmas.{after_of, before_of, replaces, step_of}
use Rattle.admit_world.proofs.StayLemmas.{key_stays}

-- ---- the key of a reference

module _ (old new : List TableState) (call : Call) (reply : Reply) (answers_it : AnswersAt old call reply new) (entry : ℕ × Reference) (key : Key) (was : key_held old (Some entry) ≡ Some key) (out : is_some (key_held new (Some entry)) ≡ true) where
  here : entry.0 ≡ call.table → entry.1.shard ≡ call.shard → key_held new (Some entry) ≡ Some key
  here t s =
      let of_state : Option State → Option Key = λ o. option_and_then (λ (state : State). key_of entry.1.ticket state.tickets) o in
      let replaced = replaces old new call reply answers_it in
      let before : shard_at old entry.0 entry.1.shard ≡ Some (before_of answers_it) = (λ k. shard_at old (t k) (s k)) ∙ replaced.was in
      let after : shard_at new entry.0 entry.1.shard ≡ Some (after_of answers_it) = (λ k. shard_at new (t k) (s k)) ∙ replaced.is in
      ap of_state after
      ∙ key_stays (before_of answers_it) call.event reply (after_of answers_it) entry.1.ticket key (step_of answers_it) (sym (ap of_state before) ∙ was) (sym (ap (λ o. is_some (of_state o)) after) ∙ out)

  elsewhere : (nat_eq entry.0 call.table && nat_eq entry.1.shard call.shard) ≡ false → key_held new (Some entry) ≡ Some key
  elsewhere differ =
      ap (λ o. option_and_then (λ (state : State). key_of entry.1.ticket state.tickets) o) ((replaces old new call reply answers_it).others entry.0 entry.1.shard differ) ∙ was

  -- one that stays out stays of its key
  pub keyed_stays : key_held new (Some entry) ≡ Some key
  keyed_stays = by (nat_eq entry.0 call.table) (nat_eq entry.1.shard call.shard) refl refl
    where
      by : (a b : Bool) → nat_eq entry.0 call.table ≡ a → nat_eq entry.1.shard call.shard ≡ b → key_held new (Some entry) ≡ Some key
      by true true t s = here (eq-from entry.0 call.table t) (eq-from entry.1.shard call.shard s)
      by true false t s = elsewhere (λ k. t k && s k)
      by false b t s = elsewhere (λ k. t k && s k)

-- ---- what its answers tell

-- as more looks pass
pub looked_passed : (limit : ℕ) (passed later : List Ticket) (ticket : Ticket) (given : List Answer) → (list_any (same_ticket ticket) passed ≡ true → list_any (same_ticket ticket) later ≡ true) → Looked limit passed ticket given → Looked limit later ticket given
looked_passed limit passed later ticket (answers.Tracked ∷ answers.Row row ∷ more) grows looked = λ within. grows (looked within)
looked_passed limit passed later ticket (answers.Tracked ∷ answers.Absent ∷ more) grows looked = tt
looked_passed limit passed later ticket (answers.Tracked ∷ answers.Tracked ∷ more) grows looked = tt
looked_passed limit passed later ticket (answers.Tracked ∷ answers.Untracked ∷ more) grows looked = tt
looked_passed limit passed later ticket (answers.Tracked ∷ answers.Value value ∷ more) grows looked = tt
looked_passed limit passed later ticket (answers.Tracked ∷ answers.Released ∷ more) grows looked = tt
looked_passed limit passed later ticket (answers.Tracked ∷ []) grows looked = tt
looked_passed limit passed later ticket (answers.Untracked ∷ more) grows looked = absurd looked
looked_passed limit passed later ticket (answers.Absent ∷ more) grows looked = absurd looked
looked_passed limit passed later ticket (answers.Row row ∷ more) grows looked = absurd looked
looked_passed limit passed later ticket (answers.Value value ∷ more) grows looked = absurd looked
looked_passed limit passed later ticket (answers.Released ∷ more) grows looked = absurd looked
looked_passed limit passed later ticket [] grows looked = absurd looked

-- as one answer more comes: only a row right behind the reference has to have passed
pub looked_more : (limit : ℕ) (passed : List Ticket) (ticket : Ticket) (given : List Answer) (answer : Answer)
    → ((row : Row) → given ≡ answers.Tracked ∷ [] → answer ≡ answers.Row row → value_in row.cells ConnCur ≤ limit → list_any (same_ticket ticket) passed ≡ true) → Looked limit passed ticket given → Looked limit passed ticket (given ++ answer ∷ [])
looked_more limit passed ticket (answers.Tracked ∷ answers.Row row ∷ more) answer last looked = looked
looked_more limit passed ticket (answers.Tracked ∷ answers.Absent ∷ more) answer last looked = tt
looked_more limit passed ticket (answers.Tracked ∷ answers.Tracked ∷ more) answer last looked = tt
looked_more limit passed ticket (answers.Tracked ∷ answers.Untracked ∷ more) answer last looked = tt
looked_more limit passed ticket (answers.Tracked ∷ answers.Value value ∷ more) answer last looked = tt
looked_more limit passed ticket (answers.Tracked ∷ answers.Released ∷ more) answer last looked = tt
looked_more limit passed ticket (answers.Tracked ∷ []) (answers.Row row) last looked = last row refl refl
looked_more limit passed ticket (answers.Tracked ∷ []) answers.Absent last looked = tt
looked_more limit passed ticket (answers.Tracked ∷ []) answers.Tracked last looked = tt
looked_more limit passed ticket (answers.Tracked ∷ []) answers.Untracked last looked = tt
looked_more limit passed ticket (answers.Tracked ∷ []) (answers.Value value) last looked = tt
looked_more limit passed ticket (answers.Tracked ∷ []) answers.Released last looked = tt
looked_more limit passed ticket (answers.Untracked ∷ more) answer last looked = absurd looked
looked_more limit passed ticket (answers.Absent ∷ more) answer last looked = absurd looked
looked_more limit passed ticket (answers.Row row ∷ more) answer last looked = absurd looked
looked_more limit passed ticket (answers.Value value ∷ more) answer last looked = absurd looked
looked_more limit passed ticket (answers.Released ∷ more) answer last looked = absurd looked
looked_more limit passed ticket [] answer last looked = absurd looked
