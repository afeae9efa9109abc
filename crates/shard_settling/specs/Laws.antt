-- Laws of what settling tells.
use Rattle.std.specs.Prelude.{ℕ, ◌≤◌, nat_eq, Bool, true, ◌&&◌, List, count_by}
use Rattle.std.specs.List.{list_any}
use Rattle.stick_model.specs.Key.{Key}
use Rattle.stick_model.specs.State.{same_ticket}
use Rattle.stick_model.specs.Passed.{passing_look}
use Rattle.stick_model.specs.declared.specification.Spec.{Spec}
use Rattle.stick_model.specs.declared.rows.Ticket.{Ticket}
use Rattle.shard_book.specs.BookState.{BookState}
use Rattle.shard_book.specs.declared.receipt.Receipt.{Receipt}
use Rattle.shard_book.specs.SeatState.{RefState, SeatState, receipts_at}
use Rattle.shard_settling.specs.Settled.{AreSettled}

-- whether a receipt is of a look at the ticket whose row is of the key and has at most `limit` references
abbrev pub is_passing : Key → ℕ → Ticket → Receipt → Bool
is_passing key limit ticket receipt = list_any (same_ticket ticket) (passing_look key limit receipt.event receipt.reply)

-- whether some seat has such a receipt of the reference's shard and ticket
abbrev pub has_passed : Key → ℕ → List SeatState → RefState → Bool
has_passed key limit seats reference = list_any (λ (seat : SeatState). list_any (is_passing key limit reference.ticket) (receipts_at reference.shard seat.receipts)) seats

-- how many references to the shard had such a look
abbrev pub passed_count : ℕ → Key → ℕ → List SeatState → List RefState → ℕ
passed_count shard key limit seats refs = count_by (λ (reference : RefState). nat_eq reference.shard shard && has_passed key limit seats reference) refs

-- where a table with receipts is settled, at most `limit` of the references to a shard that are shown had, by the receipts that
-- are shown, a look whose row is of the key and has at most `limit` references
abbrev pub SettledLimitLaw : Type 0
SettledLimitLaw = (specs : List Spec) (seats : List SeatState) (refs : List RefState) (books : List BookState) (shard : ℕ) (key : Key) (limit : ℕ) →
    AreSettled specs true seats refs books → passed_count shard key limit seats refs ≤ limit
