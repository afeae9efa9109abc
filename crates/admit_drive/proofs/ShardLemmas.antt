-- A shard that answers is replaced, and all others stay as they are.
use Rattle.std.proofs.Common.{◌≡◌, ℕ, ◌+◌, refl, sym, ap, subst, ◌∙◌, arith, Bool, true, false, cond, nat_eq, ◌&&◌, List, slice_get, slice_set, Option, Some, None, option_map}
use Rattle.std.specs.Option.{option_and_then, option_map_or}
use Rattle.stick_model.specs.State.{State}
use Rattle.stick_model.specs.Step.{Step}
use Rattle.stick_model.specs.declared.replies.Reply.{Reply}
use Rattle.stick_model.specs.declared.rows.Ticket.{Ticket}
use Rattle.stick_model.proofs.TestLemmas.{eq-from}
use Rattle.shard_book.specs.BookState.{BookState}
use Rattle.shard_book.specs.BooksState.{BooksState}
use Rattle.admit_drive.specs.Balance.{same_reference, times_of, times_out}
use Rattle.admit_drive.specs.Calls.{AnswersAt}
use Rattle.admit_drive.specs.Tables.{TableState, book_at, shard_at, shard_of}
use Rattle.admit_port.specs.Calls.{Call}
use Rattle.shard_port.specs.declared.reference.Reference.{Reference}
use Rattle.admit_drive.proofs.SumLemmas.{get_set_other, get_set_same}
use Rattle.admit_drive.proofs.TicketLemmas.{same}

-- one shard was in a state and is in another; all others are as they were
pub record Replaces (old new : List TableState) (table shard : ℕ) (before after : State) : Type 0 where
  pub was : shard_at old table shard ≡ Some before
  pub is : shard_at new table shard ≡ Some after
  pub others : (t s : ℕ) → (nat_eq t table && nat_eq s shard) ≡ false → shard_at new t s ≡ shard_at old t s

-- the same of books
pub record ReplacesBook (old new : List TableState) (table shard : ℕ) (before after : BookState) : Type 0 where
  pub was : book_at old table shard ≡ Some before
  pub is : book_at new table shard ≡ Some after
  pub others : (t s : ℕ) → (nat_eq t table && nat_eq s shard) ≡ false → book_at new t s ≡ book_at old t s

-- of the table that a call was answered by
abbrev found_book : ℕ → Option TableState → Option BookState
found_book s o = option_and_then (λ (found : TableState). slice_get found.state.books s) o

-- what a shard is now is what its book says
pub live_in : (tables : List TableState) (t s : ℕ) → shard_at tables t s ≡ option_map (λ (book : BookState). book.live) (book_at tables t s)
live_in tables t s = by (slice_get tables t)
  where
    by : (o : Option TableState) → option_and_then (λ (found : TableState). shard_of found.state.books s) o ≡ option_map (λ (book : BookState). book.live) (found_book s o)
    by None = refl
    by (Some found) = refl

abbrev pub before_of : {old new : List TableState} {call : Call} {reply : Reply} → AnswersAt old call reply new → State
before_of answers = answers.extends.before.live

abbrev pub after_of : {old new : List TableState} {call : Call} {reply : Reply} → AnswersAt old call reply new → State
after_of answers = answers.extends.after.live

pub step_of : {old new : List TableState} {call : Call} {reply : Reply} (answers : AnswersAt old call reply new) → Step (before_of answers) call.event reply (after_of answers)
step_of answers = answers.extends.extends.step

pub replaces_book : (old new : List TableState) (call : Call) (reply : Reply) (answers : AnswersAt old call reply new) → ReplacesBook old new call.table call.shard answers.extends.before answers.extends.after
replaces_book old new call reply answers =
    let before : TableState = answers.before in
    let changed : TableState = record before { state = answers.after } in
    let found : slice_get new call.table ≡ Some changed = ap (λ ts. slice_get ts call.table) answers.others ∙ get_set_same old call.table changed before answers.at in
    let books : answers.after.books ≡ slice_set before.state.books call.shard answers.extends.after = ap (λ (s : BooksState). s.books) answers.extends.others in
    record {
      was = ap (found_book call.shard) answers.at ∙ answers.extends.at;
      is = ap (found_book call.shard) found ∙ ap (λ bs. slice_get bs call.shard) books ∙ get_set_same before.state.books call.shard answers.extends.after answers.extends.before answers.extends.at;
      others = λ t s differ. elim (nat_eq t call.table) as (λ b. nat_eq t call.table ≡ b → (b && nat_eq s call.shard) ≡ false → book_at new t s ≡ book_at old t s) [
        | true ↦ λ here other.
            let at : t ≡ call.table = eq-from t call.table here in
            let stays : slice_get answers.after.books s ≡ slice_get before.state.books s = ap (λ bs. slice_get bs s) books ∙ get_set_other before.state.books call.shard s answers.extends.after other in
            ap (λ n. book_at new n s) at ∙ ap (found_book s) found ∙ stays ∙ sym (ap (found_book s) answers.at) ∙ sym (ap (λ n. book_at old n s) at)
        | false ↦ λ there other. ap (found_book s) (ap (λ ts. slice_get ts t) answers.others ∙ get_set_other old call.table t changed there)
      ] refl differ;
    }

pub replaces : (old new : List TableState) (call : Call) (reply : Reply) (answers : AnswersAt old call reply new) → Replaces old new call.table call.shard (before_of answers) (after_of answers)
replaces old new call reply answers =
    let live : Option BookState → Option State = λ o. option_map (λ (book : BookState). book.live) o in
    let books = replaces_book old new call reply answers in
    record {
      was = live_in old call.table call.shard ∙ ap live books.was;
      is = live_in new call.table call.shard ∙ ap live books.is;
      others = λ t s differ. live_in new t s ∙ ap live (books.others t s differ) ∙ sym (live_in old t s);
    }

-- ---- how often a reference is out

module _ (old new : List TableState) (table shard : ℕ) (before after : State) (replaced : Replaces old new table shard before after) where
  abbrev here_of : Ticket → ℕ × Reference
  here_of ticket = (table, record { shard = shard; ticket = ticket })

  -- of this shard, or of another
  pub at_place : (P : ℕ → ℕ → ℕ → Type 0) (reference : ℕ × Reference) (given : Ticket)
      → P (times_of reference.1.ticket before) (times_of reference.1.ticket after) (same reference.1.ticket given) → ((n : ℕ) → P n n 0)
      → P (times_out reference old) (times_out reference new) (cond (same_reference reference (here_of given)) 1 0)
  at_place P reference given this others =
      elim (nat_eq reference.0 table) as (λ b. nat_eq reference.0 table ≡ b → P (times_out reference old) (times_out reference new) (cond (b && (nat_eq reference.1.shard shard && same_ticket_of)) 1 0)) [
        | true ↦ λ in_table. elim (nat_eq reference.1.shard shard) as (λ c. nat_eq reference.1.shard shard ≡ c → P (times_out reference old) (times_out reference new) (cond (c && same_ticket_of) 1 0)) [
          | true ↦ λ in_shard.
              let t : reference.0 ≡ table = eq-from reference.0 table in_table in
              let s : reference.1.shard ≡ shard = eq-from reference.1.shard shard in_shard in
              let was : times_out reference old ≡ times_of reference.1.ticket before = ap (λ o. option_map_or (times_of reference.1.ticket) o 0) (ap (λ n. shard_at old n reference.1.shard) t ∙ ap (λ n. shard_at old table n) s ∙ replaced.was) in
              let is : times_out reference new ≡ times_of reference.1.ticket after = ap (λ o. option_map_or (times_of reference.1.ticket) o 0) (ap (λ n. shard_at new n reference.1.shard) t ∙ ap (λ n. shard_at new table n) s ∙ replaced.is) in
              subst (λ n. P n (times_out reference new) (same reference.1.ticket given)) (sym was) (subst (λ n. P (times_of reference.1.ticket before) n (same reference.1.ticket given)) (sym is) this)
          | false ↦ λ elsewhere. stays (ap (λ b. b && nat_eq reference.1.shard shard) in_table ∙ elsewhere)
        ] refl
        | false ↦ λ elsewhere. stays (ap (λ b. b && nat_eq reference.1.shard shard) elsewhere)
      ] refl
    where
      same_ticket_of : Bool
      same_ticket_of = Rattle.stick_model.specs.State.same_ticket reference.1.ticket given

      stays : (nat_eq reference.0 table && nat_eq reference.1.shard shard) ≡ false → P (times_out reference old) (times_out reference new) 0
      stays differ =
          let kept : times_out reference new ≡ times_out reference old = ap (λ o. option_map_or (times_of reference.1.ticket) o 0) (replaced.others reference.0 reference.1.shard differ) in
          subst (λ n. P (times_out reference old) n 0) (sym kept) (others (times_out reference old))

  -- one more, one less, or as before
  pub out_more : (reference : ℕ × Reference) (given : Ticket) → ((ticket : Ticket) → times_of ticket after ≡ times_of ticket before + same ticket given)
      → times_out reference new ≡ times_out reference old + cond (same_reference reference (here_of given)) 1 0
  out_more reference given more = at_place (λ m n k. n ≡ m + k) reference given (more reference.1.ticket) (λ n. omega arith)

  pub out_less : (reference : ℕ × Reference) (given : Ticket) → ((ticket : Ticket) → times_of ticket after + same ticket given ≡ times_of ticket before)
      → times_out reference new + cond (same_reference reference (here_of given)) 1 0 ≡ times_out reference old
  out_less reference given less = at_place (λ m n k. n + k ≡ m) reference given (less reference.1.ticket) (λ n. omega arith)

  pub out_same : (reference : ℕ × Reference) → after.tickets ≡ before.tickets → times_out reference new ≡ times_out reference old
  out_same reference kept = at_place (λ m n k. n ≡ m) reference reference.1.ticket (ap (Rattle.admit_drive.proofs.TicketLemmas.times reference.1.ticket) kept) (λ n. refl)
