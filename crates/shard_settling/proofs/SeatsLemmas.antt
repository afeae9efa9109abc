-- What is counted and told of seats, by the seats that threads share.
use Rattle.std.proofs.Common.{◌≡◌, ◌↔◌, ℕ, ◌+◌, Bool, IsTrue, List, [], ◌∷◌, All, refl, ap, ◌∙◌, sym, subst}
use Rattle.std.proofs.lemmas.List.Elements.{All-cons, All-head, All-map, All-nil, All-tail}
use Rattle.std.proofs.lemmas.List.Sums.{sum_by-cons}
use Rattle.stick_model.specs.declared.replies.Reply.{Reply}
use Rattle.shard_book.specs.declared.recorded.Recorded.{Recorded}
use Rattle.shard_book.specs.SeatState.{SeatState, calls_of, receipts_at}
use Rattle.shard_locks.specs.Shared.{SharedSeatState, seats_of}
use Rattle.shard_settling.specs.Settled.{AreTold, calls_made, made_by, told_to}

made_is : (seats : List SharedSeatState) (shard : ℕ) → made_by seats shard ≡ calls_made (seats_of seats) shard
made_is [] shard = refl
made_is (shared ∷ seats) shard =
    sum_by-cons (λ (one : SharedSeatState). calls_of one.seat shard) shared seats
    ∙ (ap (λ n. calls_of shared.seat shard + n) (made_is seats shard) ∙ sym (sum_by-cons (λ (seat : SeatState). calls_of seat shard) shared.seat (seats_of seats)))

pub made_iff : (b : Bool) (count : ℕ) (seats : List SharedSeatState) (shard : ℕ) → (IsTrue b ↔ (count ≡ made_by seats shard)) → IsTrue b ↔ (count ≡ calls_made (seats_of seats) shard)
made_iff b count seats shard = subst (λ n. IsTrue b ↔ (count ≡ n)) (made_is seats shard)

-- each was told what it keeps
abbrev pub WasTold : ℕ → List Recorded → List Reply → SeatState → Type 0
WasTold shard calls replies seat = told_to shard seat.number calls replies ≡ receipts_at shard seat.receipts

abbrev pub AllTold : ℕ → List SharedSeatState → List Recorded → List Reply → Type 0
AllTold shard seats calls replies = All (λ (shared : SharedSeatState). WasTold shard calls replies shared.seat) seats

all_of_told : (shard : ℕ) (seats : List SharedSeatState) (calls : List Recorded) (replies : List Reply) → AreTold shard (seats_of seats) calls replies → AllTold shard seats calls replies
all_of_told shard [] calls replies told = All-nil (λ (shared : SharedSeatState). WasTold shard calls replies shared.seat)
all_of_told shard (one ∷ seats) calls replies told =
    All-cons (λ (shared : SharedSeatState). WasTold shard calls replies shared.seat) one seats
    (All-head (WasTold shard calls replies) one.seat (seats_of seats) told)
    (all_of_told shard seats calls replies (All-tail (WasTold shard calls replies) one.seat (seats_of seats) told))

pub told_iff : (b : Bool) (shard : ℕ) (seats : List SharedSeatState) (calls : List Recorded) (replies : List Reply) → (IsTrue b ↔ AllTold shard seats calls replies) → IsTrue b ↔ AreTold shard (seats_of seats) calls replies
told_iff b shard seats calls replies iff =
    (λ t. All-map (WasTold shard calls replies) (λ (shared : SharedSeatState). shared.seat) seats (iff.0 t), λ told. iff.1 (all_of_told shard seats calls replies told))
