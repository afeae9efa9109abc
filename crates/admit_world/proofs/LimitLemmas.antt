-- Of the admitted connections that hold a key, each has a ticket that passed the limit.
use Rattle.std.proofs.Common.{◌≡◌, ℕ, ◌≤◌, refl, sym, ap, ◌∙◌, Bool, true, false, cond, nat_eq, ◌||◌, List, [], ◌∷◌, slice_get, Some}
use Rattle.std.specs.List.{list_any}
use Rattle.std.proofs.lemmas.Bool.{false≢true}
use Rattle.stick_key.specs.Shard.{shard}
use Rattle.stored_data.specs.Stored.{is_column}
use Rattle.stored_data.specs.declared.datum.Datum.TheVariants.{ConnCur}
use Rattle.stick_model.specs.Key.{Key}
use Rattle.stick_model.specs.Passed.{passing_looks}
use Rattle.stick_model.specs.Run.{Run}
use Rattle.stick_model.specs.State.{State, empty_table, key_of, same_ticket}
use Rattle.stick_model.specs.declared.events.Event.{Event}
use Rattle.stick_model.specs.declared.replies.Reply.{Reply}
use Rattle.stick_model.specs.declared.rows.Ticket.{Ticket}
use Rattle.stick_model.specs.declared.specification.Spec.{Spec}
use Rattle.stick_model.proofs.TestLemmas.{and-left, and-right, eq-from}
use Rattle.rule_model.specs.declared.actions.KeyExpression.TheVariants as keys
use Rattle.rule_model.specs.declared.sections.Setup.{Setup}
use Rattle.rule_eval.specs.Limit.{IsWithin}
use Rattle.rule_eval.specs.Readings.{value_in}
use Rattle.rule_eval.specs.Tables.{key_of as source_key}
use Rattle.rule_eval.specs.declared.wants.Answer.{Answer}
use Rattle.rule_eval.specs.declared.wants.Answer.TheVariants as answers
use Rattle.admit_core.specs.Connection.{Connection}
use Rattle.admit_core.specs.declared.need.Phase.{Phase}
use Rattle.admit_core.specs.declared.need.Phase.TheVariants.{New, Judging, Admitted, Rejected, Ended}
use Rattle.admit_world.specs.Limit.{is_admitted, key_held}
use Rattle.admit_drive.specs.Tables.{TableState, shard_at}
use Rattle.admit_world.specs.World.{WorldState}
use Rattle.shard_port.specs.declared.reference.Reference.{Reference}
use Rattle.admit_world.proofs.RecordLemmas.{IsRecorded}

-- ---- what holds of each connection behind rules that begin so

-- its answers begin with a reference; and where a row came then that shows at most the limit, its ticket passed
abbrev pub Looked : ℕ → List Ticket → Ticket → List Answer → Type 0
Looked limit passed ticket (answers.Tracked ∷ answers.Row row ∷ more) = value_in row.cells ConnCur ≤ limit → list_any (same_ticket ticket) passed ≡ true
Looked limit passed ticket (answers.Tracked ∷ more) = Unit {0}
Looked limit passed ticket answers = ⊥

-- what it holds by sc0 is of its source's key, on the shard of that key
pub record HasTracked (setup : Setup) (table limit : ℕ) (key : Key) (tables : List TableState) (passed : List Ticket) (connection : Connection Reference) (entry : ℕ × Reference) : Type 0 where
  pub source : Key
  pub is : source_key setup connection.samples keys.Source table ≡ Some source
  pub in_table : entry.0 ≡ table
  pub on_shard : entry.1.shard ≡ shard source setup.shards
  pub keyed : key_held tables (Some entry) ≡ Some source
  pub looked : source ≡ key → Looked limit passed entry.1.ticket connection.answers

-- the shard of the key has come from an empty table by these events, and each connection has tracked so
pub record IsLimited (setup : Setup) (table limit : ℕ) (key : Key) (world : WorldState) : Type 0 where
  pub spec : Spec
  pub events : List Event
  pub replies : List Reply
  pub live : State
  pub stores : is_column spec.columns ConnCur ≡ true
  pub at : shard_at world.tables table (shard key setup.shards) ≡ Some live
  pub run : Run (empty_table spec) events replies live
  pub recorded : IsRecorded table (shard key setup.shards) world.tables spec events replies
  pub each : (i : ℕ) (connection : Connection Reference) (entry : ℕ × Reference) → slice_get world.connections i ≡ Some connection → connection.progress.held.sc0 ≡ Some entry
      → HasTracked setup table limit key world.tables (passing_looks key limit events replies) connection entry

-- ---- an accepted one has passed

pub passed_within : (limit : ℕ) (passed : List Ticket) (ticket : Ticket) (given : List Answer) → IsWithin limit given → Looked limit passed ticket given → list_any (same_ticket ticket) passed ≡ true
passed_within limit passed ticket (answers.Tracked ∷ answers.Row row ∷ more) within looked = looked within
passed_within limit passed ticket (answers.Tracked ∷ answers.Absent ∷ more) within looked = absurd within
passed_within limit passed ticket (answers.Tracked ∷ answers.Tracked ∷ more) within looked = absurd within
passed_within limit passed ticket (answers.Tracked ∷ answers.Untracked ∷ more) within looked = absurd within
passed_within limit passed ticket (answers.Tracked ∷ answers.Value value ∷ more) within looked = absurd within
passed_within limit passed ticket (answers.Tracked ∷ answers.Released ∷ more) within looked = absurd within
passed_within limit passed ticket (answers.Tracked ∷ []) within looked = absurd within
passed_within limit passed ticket (answers.Untracked ∷ more) within looked = absurd looked
passed_within limit passed ticket (answers.Absent ∷ more) within looked = absurd looked
passed_within limit passed ticket (answers.Row row ∷ more) within looked = absurd looked
passed_within limit passed ticket (answers.Value value ∷ more) within looked = absurd looked
passed_within limit passed ticket (answers.Released ∷ more) within looked = absurd looked
passed_within limit passed ticket [] within looked = absurd looked

pub phase_of : (phase : Phase) → is_admitted phase ≡ true → phase ≡ Admitted
phase_of Admitted is = refl
phase_of New is = absurd (false≢true is)
phase_of Judging is = absurd (false≢true is)
phase_of Rejected is = absurd (false≢true is)
phase_of Ended is = absurd (false≢true is)

same_is : (a b : Ticket) → same_ticket a b ≡ true → a ≡ b
same_is a b is =
    let number : a.number ≡ b.number = eq-from a.number b.number (and-left (nat_eq a.number b.number) (nat_eq a.slot b.slot) is) in
    let slot : a.slot ≡ b.slot = eq-from a.slot b.slot (and-right (nat_eq a.number b.number) (nat_eq a.slot b.slot) is) in
    (λ k. record { slot = slot k; number = number k })

-- a ticket of a key that is out and has passed is among the tickets
pub found_among : (Q : Ticket × Key → Bool) (ticket : Ticket) (key : Key) (tickets : List (Ticket × Key)) → key_of ticket tickets ≡ Some key → Q (ticket, key) ≡ true → list_any Q tickets ≡ true
found_among Q ticket key [] is passes = cc
found_among Q ticket key (held ∷ tickets) is passes =
    elim (same_ticket ticket held.0) as (λ b. same_ticket ticket held.0 ≡ b → cond b (Some held.1) (key_of ticket tickets) ≡ Some key → (Q held || list_any Q tickets) ≡ true) [
      | true ↦ λ here at.
          let k : held.1 ≡ key = cc in
          let whole : Q held ≡ true = (λ n. Q (sym (same_is ticket held.0 here) n, k n)) ∙ passes in
          ap (λ b. b || list_any Q tickets) whole
      | false ↦ λ there at. either (Q held) (list_any Q tickets) (found_among Q ticket key tickets at passes)
    ] refl is
  where
    either : (a b : Bool) → b ≡ true → (a || b) ≡ true
    either true b is = refl
    either false b is = is
