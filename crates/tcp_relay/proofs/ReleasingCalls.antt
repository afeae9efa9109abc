-- A seat that is told of a call more has released what it had released, and what it releases.
use Rattle.stick_model.specs.declared.events.Event.{Event}
use Rattle.std.specs.List.{list_any}
use Rattle.std.proofs.Common.{◌≡◌, ℕ, refl, sym, ap, subst, ◌∙◌, Bool, true, false, nat_eq, List, [], ◌∷◌, ◌++◌, append_assoc, slice_get, Some, None, Option}
use Rattle.std.proofs.lemmas.List.{append-nil}
use Rattle.stick_model.specs.declared.events.Event.TheVariants.{Release}
use Rattle.stick_model.specs.declared.replies.Reply.{Reply}
use Rattle.stick_model.specs.declared.replies.Reply.TheVariants.{Released}
use Rattle.stick_model.proofs.TestLemmas.{eq-from}
use Rattle.shard_record.specs.declared.view.Call.{Call as Noted}
use Rattle.shard_record.specs.Calls.{call}
use Rattle.shard_record.specs.Telling.{IsTold, mine_of, number_of}
use Rattle.shard_record.proofs.Tickets.{same_self}
use Rattle.shard_book.specs.SeatState.{RefState}
use Rattle.shard_locks.specs.Ported.{seated_meaning}
use Rattle.shard_locks.specs.ShardsState.{SeatedState, ShardsState, book_of}
use Rattle.shard_locks.proofs.LastCalls.{any_last}
use Rattle.admit_port.specs.Calls.{AnswersAt, Call}
use Rattle.tcp_relay.specs.Moments.{HaveCalledAt, mine_at}
use Rattle.tcp_relay.specs.Releasing.{GoesBack, WasReleased, is_release_of, released_by}
use Rattle.tcp_relay.proofs.PassedCalls.{any_later}
use Rattle.tcp_relay.proofs.PassedSeats.{after_at, same_seat}
use Rattle.tcp_relay.proofs.PassedTold.{get_set_other, mine_other}

-- what the seat of a table has called for more
record HasMore (new : List SeatedState) (seat : SeatedState) (table part : ℕ) : Type 0 where
  later : SeatedState
  at : slice_get new table ≡ Some later
  more : List Noted
  mine : mine_at later part ≡ mine_at seat part ++ more

module _ (old new : List SeatedState) (asked : Call) (reply : Reply) (by : AnswersAt seated_meaning old asked reply new) where
  abbrev of : ℕ
  of = book_of by.before.table asked.shard

  told : IsTold of asked.event reply by.before.known by.after.known
  told = by.answers.recorded

  abbrev one : Noted
  one = call (number_of of by.before.known) asked.event reply

  mine_is : (part : ℕ) → mine_at by.after part ≡ mine_of (book_of by.before.table part) by.after.known
  mine_is part = ap (λ (t : ShardsState). mine_of (book_of t part) by.after.known) by.answers.table

  mine_own : mine_at by.after asked.shard ≡ mine_at by.before asked.shard ++ one ∷ []
  mine_own = mine_is asked.shard ∙ told.mine

  more_of : (part : ℕ) → (more : List Noted) × (mine_at by.after part ≡ mine_at by.before part ++ more)
  more_of part = cases (nat_eq (book_of by.before.table part) of) refl
    where
      own : book_of by.before.table part ≡ of → (more : List Noted) × (mine_at by.after part ≡ mine_at by.before part ++ more)
      own same = (one ∷ [], mine_is part ∙ ap (λ b. mine_of b by.after.known) same ∙ told.mine ∙ ap (λ b. mine_of b by.before.known ++ one ∷ []) (sym same))

      cases : (b : Bool) → nat_eq (book_of by.before.table part) of ≡ b → (more : List Noted) × (mine_at by.after part ≡ mine_at by.before part ++ more)
      cases true same = own (eq-from (book_of by.before.table part) of same)
      cases false apart = ([], mine_is part ∙ mine_other of asked.event reply by.before.known by.after.known told (book_of by.before.table part) apart ∙ sym (append-nil (mine_at by.before part)))

  grows : (table part : ℕ) (seat : SeatedState) → slice_get old table ≡ Some seat → HasMore new seat table part
  grows table part seat at = cases (nat_eq table asked.table) refl
    where
      own : table ≡ asked.table → HasMore new seat table part
      own same =
          let was : seat ≡ by.before = same_seat seat by.before (sym at ∙ ap (slice_get old) same ∙ by.at) in
          let more = more_of part in
          record { later = by.after; at = ap (slice_get new) same ∙ after_at old new asked reply by; more = more.0; mine = more.1 ∙ ap (λ (s : SeatedState). mine_at s part ++ more.0) (sym was) }

      cases : (b : Bool) → nat_eq table asked.table ≡ b → HasMore new seat table part
      cases true same = own (eq-from table asked.table same)
      cases false apart = record {
        later = seat;
        at = ap (λ seats. slice_get seats table) by.others ∙ get_set_other old asked.table table by.after apart ∙ at;
        more = [];
        mine = sym (append-nil (mine_at seat part));
      }

  -- what was released is released still
  pub told_released : (start : List SeatedState) (entry : ℕ × RefState) → WasReleased start old entry → WasReleased start new entry
  told_released start entry had =
      let more = grows entry.0 entry.1.shard had.seat had.at in
      record {
        was = had.was;
        was_at = had.was_at;
        seat = more.later;
        at = more.at;
        calls = had.calls ++ more.more;
        made = more.mine ∙ ap (λ l. l ++ more.more) had.made ∙ append_assoc (mine_at had.was entry.1.shard) had.calls more.more;
        released = any_later (is_release_of entry.1.ticket) had.calls (had.calls ++ more.more) (more.more, refl) had.released;
      }

  pub told_back : (start : List SeatedState) (before after : Option (ℕ × RefState)) → GoesBack start old before after → GoesBack start new before after
  told_back start None after back = back
  told_back start (Some entry) None back = told_released start entry back
  told_back start (Some entry) (Some kept) back = back

  -- and so is what this call releases
  pub now_released : (start : List SeatedState) (moment now : ℕ) (entry : ℕ × RefState) → HaveCalledAt moment start old → asked ≡ record { table = entry.0; shard = entry.1.shard; event = Release now entry.1.ticket } → reply ≡ Released
      → WasReleased start new entry
  now_released start moment now entry called is answered =
      let had = called asked.table by.before by.at asked.shard in
      let its_table : asked.table ≡ entry.0 = ap (λ (a : Call). a.table) is in
      let its_shard : asked.shard ≡ entry.1.shard = ap (λ (a : Call). a.shard) is in
      let its_event : asked.event ≡ Release now entry.1.ticket = ap (λ (a : Call). a.event) is in
      let its_release : is_release_of entry.1.ticket one ≡ true = (λ k. released_by entry.1.ticket (its_event k) (answered k)) ∙ same_self entry.1.ticket in
      let its : WasReleased start new (asked.table, record { shard = asked.shard; ticket = entry.1.ticket }) = record {
        was = had.0;
        was_at = had.1;
        seat = by.after;
        at = after_at old new asked reply by;
        calls = had.2.calls ++ one ∷ [];
        made = mine_own ∙ ap (λ l. l ++ one ∷ []) had.2.mine ∙ append_assoc (mine_at had.0 asked.shard) had.2.calls (one ∷ []);
        released = any_last (is_release_of entry.1.ticket) had.2.calls one its_release;
      } in
      subst (λ (e : ℕ × RefState). WasReleased start new e) (λ k. (its_table k, record { shard = its_shard k; ticket = entry.1.ticket })) its
