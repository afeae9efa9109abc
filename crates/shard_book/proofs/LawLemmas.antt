-- The laws of seats.
use Rattle.std.proofs.Common.{◌≡◌, ℕ, ◌+◌, ◌<◌, true, false, ◌||◌, None, length, get_or, set, refl, sym, ap, ◌∙◌, subst, arith}
use Rattle.std.proofs.lemmas.Bool.{false≢true}
use Rattle.std.proofs.lemmas.Grind.{get_or-set_at}
use Rattle.std.proofs.lemmas.List.{get_or-set_other}
use Rattle.stick_model.specs.State.{State}
use Rattle.stick_model.specs.Step.{is_out, ticket_of}
use Rattle.stick_model.specs.declared.rows.Ticket.{Ticket}
use Rattle.stick_model.specs.declared.events.Event.{Event}
use Rattle.stick_model.specs.declared.events.Event.TheVariants.{Get, Track, Look, Count, Release, Put, Clear, ClearWhere, List as ListRows, Expire}
use Rattle.stick_model.specs.declared.replies.Reply.{Reply}
use Rattle.stick_model.specs.declared.replies.Refusal.TheVariants.{Stale, Exhausted, Memory}
use Rattle.shard_book.specs.SeatState.{SeatState, IsSeat, after_call, calls_of, kept_receipts, seen_of}
use Rattle.shard_book.specs.Told.{IsRefusedTo}
use Rattle.shard_book.specs.SeatLaws.{CallLaw, HasCall, RefusalLaw}

-- ---- an answer

after-has_call : (old : SeatState) (shard number : ℕ) (event : Event) (reply : Reply) → IsSeat old → shard < 64 → seen_of old shard < number → HasCall old shard event reply (after_call old shard number event reply)
after-has_call old shard number event reply is below later =
    let in_calls : shard < length old.calls = omega (arith, is.calls) in
    let in_seen : shard < length old.seen = omega (arith, is.seen) in
    let seen : get_or (set old.seen shard number) shard 0 ≡ number = get_or-set_at old.seen shard shard number 0 refl in_seen in
    record {
      calls = get_or-set_at old.calls shard shard (calls_of old shard + 1) 0 refl in_calls;
      seen = omega arith;
      kept = λ keeps. ap (λ b. kept_receipts b old.receipts shard event reply) keeps;
      bare = λ keeps. ap (λ b. kept_receipts b old.receipts shard event reply) keeps;
      others = λ other differs. (get_or-set_other old.calls shard other (calls_of old shard + 1) 0 differs, get_or-set_other old.seen shard other number 0 differs);
      number = refl;
      keeps = refl;
    }

pub call-law : CallLaw
call-law old shard event reply new is below told =
    let later : seen_of old shard < told.before.events + 1 = omega (arith, told.later) in
    subst (HasCall old shard event reply) (sym told.seat) (after-has_call old shard (told.before.events + 1) event reply is below later)

-- ---- a refusal

out-without_ticket : (state : State) (event : Event) → ticket_of event ≡ None → is_out state event ≡ true
out-without_ticket state (Get now key) none = refl
out-without_ticket state (Track now key) none = refl
out-without_ticket state (Put now key pairs) none = refl
out-without_ticket state (Clear now key) none = refl
out-without_ticket state (ClearWhere now choice) none = refl
out-without_ticket state (ListRows now choice) none = refl
out-without_ticket state (Expire now) none = refl
out-without_ticket state (Look now ticket) none = absurd (cc)
out-without_ticket state (Count now ticket act) none = absurd (cc)
out-without_ticket state (Release now ticket) none = absurd (cc)

not_stale : (seat : SeatState) (shard : ℕ) (event : Event) → ticket_of event ≡ None → IsRefusedTo seat shard event Stale → ⊥
not_stale seat shard event none refused = false≢true (sym refused.4 ∙ out-without_ticket refused.0 event none)

not_exhausted : (seat : SeatState) (shard now : ℕ) (ticket : Ticket) → IsRefusedTo seat shard (Release now ticket) Exhausted → ⊥
not_exhausted seat shard now ticket refused = false≢true (sym refused.4.1)

not_memory : (seat : SeatState) (shard now : ℕ) (ticket : Ticket) → seat.keeps ≡ false → IsRefusedTo seat shard (Release now ticket) Memory → ⊥
not_memory seat shard now ticket bare refused = false≢true (sym (ap (λ b. b || false) bare) ∙ refused)

pub refusal-law : RefusalLaw
refusal-law = record {
  no_ticket = λ seat shard event refusal none refused is. not_stale seat shard event none (subst (IsRefusedTo seat shard event) is refused);
  release = λ seat shard now ticket refusal refused is. not_exhausted seat shard now ticket (subst (IsRefusedTo seat shard (Release now ticket)) is refused);
  bare_release = λ seat shard now ticket refusal bare refused is. not_memory seat shard now ticket bare (subst (IsRefusedTo seat shard (Release now ticket)) is refused);
}
