-- What is known of an answer or a refusal, from the book that gave it.
use Rattle.std.proofs.Common.{◌≡◌, ℕ, ◌+◌, ◌<◌, ◌≤◌, ◌^◌, Bool, true, false, List, length, get_or, set, refl, sym, ap, ◌∙◌, subst, arith}
use Rattle.std.specs.Prelude.{slice_index, slice_set}
use Rattle.std.proofs.lemmas.Grind.{get_or-set_at}
use Rattle.stick_model.specs.State.{State}
use Rattle.stick_model.specs.Refusals.{has_life}
use Rattle.stick_model.specs.declared.events.Event.{Event}
use Rattle.stick_model.specs.declared.replies.Reply.{Reply}
use Rattle.stick_model.specs.declared.replies.Refusal.{Refusal}
use Rattle.stick_model.specs.declared.replies.Refusal.TheVariants.{Stale, Exhausted, Memory, Behind}
use Rattle.stick_model.proofs.StepLemmas.{step_events}
use Rattle.shard_book.specs.BookState.{BookState, IsBook, Extends, IsCallRefused}
use Rattle.shard_book.proofs.BookLemmas.{live_events-limit, live_limits}
use Rattle.shard_book.specs.declared.receipt.Receipt.{Receipt}
use Rattle.shard_book.specs.SeatState.{SeatState, IsSeat, after_call, kept_receipts, seen_of}
use Rattle.shard_book.proofs.SeatLemmas.{called_is_seat}
use Rattle.shard_book.specs.Told.{Told, IsAskRefused, IsRefusedBy, IsRefusedTo}

-- ---- refusals

-- as a book refuses a call, so it refuses it with a receipt, which may want memory too
pub ask_refused : (live : State) (keeps : Bool) (event : Event) (refusal : Refusal) → IsCallRefused live event refusal → IsAskRefused live keeps event refusal
ask_refused live true event Memory refused = refl
ask_refused live false event Memory refused = refused
ask_refused live keeps event Stale refused = refused
ask_refused live keeps event Exhausted refused = refused
ask_refused live keeps event (Behind count front) refused = absurd refused

pub refused_to : (book : BookState) (seat : SeatState) (shard : ℕ) (event : Event) (refusal : Refusal)
    → IsBook book → seen_of seat shard ≤ book.live.events → IsAskRefused book.live seat.keeps event refusal → IsRefusedTo seat shard event refusal
refused_to book seat shard event Stale is later refused = (book.live, live_limits book is, is.live_legal, later, refused)
refused_to book seat shard event Exhausted is later refused = (book.live, live_limits book is, is.live_legal, later, refused)
refused_to book seat shard event Memory is later refused = refused
refused_to book seat shard event (Behind count front) is later refused = absurd refused

-- the seat that the caller has is the one that was opened
pub refused_to_opened : (book : BookState) (seat was : SeatState) (count shard : ℕ) (event : Event) (refusal : Refusal)
    → seat ≡ was → IsBook book → count ≡ book.live.events → seen_of seat shard ≤ count → IsAskRefused book.live seat.keeps event refusal → IsRefusedTo was shard event refusal
refused_to_opened book seat was count shard event refusal same is counted later refused =
    subst (λ (s : SeatState). IsRefusedTo s shard event refusal) same (refused_to book seat shard event refusal is (omega arith) refused)

pub refused_by : (live : State) (seat : SeatState) (shard : ℕ) (event : Event) (refusal : Refusal)
    → seen_of seat shard ≤ live.events → IsAskRefused live seat.keeps event refusal → IsRefusedBy live seat shard event refusal
refused_by live seat shard event Stale later refused = (later, refused)
refused_by live seat shard event Exhausted later refused = (later, refused)
refused_by live seat shard event Memory later refused = (later, refused)
refused_by live seat shard event (Behind count front) later refused = absurd refused

-- ---- answers

-- the seat as the code leaves it
pub called : (seat : SeatState) (calls seen : List ℕ) (receipts : List Receipt) (shard number : ℕ) (event : Event) (reply : Reply)
    → calls ≡ slice_set seat.calls shard (slice_index seat.calls shard + 1) → seen ≡ slice_set seat.seen shard number → receipts ≡ kept_receipts seat.keeps seat.receipts shard event reply
    → record seat { calls = calls; seen = seen; receipts = receipts } ≡ after_call seat shard number event reply
called seat calls seen receipts shard number event reply counted noted kept i = record seat { calls = counted i; seen = noted i; receipts = kept i }

-- a call of a book that had counted so many events
pub served_is_seat : (old new : BookState) (seat now : SeatState) (count shard : ℕ) (event : Event) (reply : Reply)
    → now ≡ after_call seat shard (count + 1) event reply → IsSeat seat → shard < 64 → Extends old seat.number event reply new → IsBook new
    → count ≡ old.live.events → seen_of seat shard ≤ count → IsSeat now
served_is_seat old new seat now count shard event reply called_so is below extends book counted later =
    let events : new.live.events ≡ old.live.events + 1 = step_events old.live event reply new.live extends.step in
    let limit : new.live.events ≤ 2 ^ 62 = live_events-limit new book in
    let after : IsSeat (after_call seat shard (count + 1) event reply) = called_is_seat seat shard (count + 1) event reply is below (omega arith) (omega arith) in
    subst IsSeat (sym called_so) after

-- the seat that the caller had is the one that was opened
pub served_told : (old new : BookState) (was seat now : SeatState) (count shard : ℕ) (event : Event) (reply : Reply)
    → seat ≡ was → now ≡ after_call seat shard (count + 1) event reply → IsBook old → has_life old.live event ≡ true → Extends old seat.number event reply new
    → count ≡ old.live.events → seen_of seat shard ≤ count → Told was shard event reply now
served_told old new was seat now count shard event reply same called_so is lives extends counted later =
    let told : Told seat shard event reply now = record {
      before = old.live;
      after = new.live;
      limits = live_limits old is;
      legal = is.live_legal;
      lives = lives;
      step = extends.step;
      later = omega arith;
      seat = called_so ∙ ap (λ n. after_call seat shard (n + 1) event reply) counted;
    } in
    subst (λ (s : SeatState). Told s shard event reply now) same told

pub served_number : (old new : BookState) (seat now : SeatState) (count shard : ℕ) (event : Event) (reply : Reply)
    → now ≡ after_call seat shard (count + 1) event reply → IsSeat seat → shard < 64 → Extends old seat.number event reply new → count ≡ old.live.events → seen_of now shard ≡ new.live.events
served_number old new seat now count shard event reply called_so is below extends counted =
    let in_seen : shard < length seat.seen = omega (arith, is.seen) in
    let events : new.live.events ≡ old.live.events + 1 = step_events old.live event reply new.live extends.step in
    let there : get_or (set seat.seen shard (count + 1)) shard 0 ≡ count + 1 = get_or-set_at seat.seen shard shard (count + 1) 0 refl in_seen in
    let whole : count + 1 ≡ new.live.events = omega arith in
    ap (λ (s : SeatState). seen_of s shard) called_so ∙ there ∙ whole
