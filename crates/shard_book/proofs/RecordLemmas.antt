-- What a book's record determines, and what it says of each seat.
use Rattle.std.proofs.Common.{◌≡◌, ◌≢◌, ℕ, List, [], ◌∷◌, ◌++◌, length, nat_eq, true, false, cond, refl, sym, ap, ◌∙◌, subst, arith}
use Rattle.std.proofs.lemmas.List.Elements.{filter-append}
use Rattle.std.proofs.lemmas.Bool.Decides.{nat_tests}
use Rattle.stick_model.specs.State.{State}
use Rattle.stick_model.specs.Step.{slot_of}
use Rattle.stick_model.specs.Run.{StoredRun}
use Rattle.stick_model.specs.declared.events.Stored.{Stored}
use Rattle.stick_model.specs.declared.events.Event.{Event}
use Rattle.stick_model.specs.declared.replies.Reply.{Reply}
use Rattle.stick_model.proofs.RunLemmas.{lasting-law, run_determined, stored_run_length, stored_run_more}
use Rattle.shard_book.specs.declared.recorded.Recorded.{Recorded}
use Rattle.shard_book.specs.BookState.{Answered, BookState, Extends, IsBook, answered, of_seat, recorded, stored_of}
use Rattle.shard_book.specs.Laws.{OneRecordLaw, ReplayLaw, ToldLaw}
use Rattle.shard_book.proofs.BookLemmas.{length-stored_of, stored_of-push, stored_run}

pub one-record-law : OneRecordLaw
one-record-law book is replies new run = run_determined book.base (stored_of book.calls) replies is.replies new book.live run (stored_run book is)

pub stored_of-append : (calls later : List Recorded) → stored_of (calls ++ later) ≡ stored_of calls ++ stored_of later
stored_of-append [] later = refl
stored_of-append (first ∷ rest) later = ap (λ xs. first.stored ∷ xs) (stored_of-append rest later)

pub replay-law : ReplayLaw
replay-law book is before call later replies middle refusal are run refused =
    let split : stored_of book.calls ≡ stored_of before ++ call.stored ∷ stored_of later = ap stored_of are ∙ stored_of-append before (call ∷ later) in
    (lasting-law book.base (stored_of book.calls) is.replies book.live is.run).refused (stored_of before) call.stored (stored_of later) replies middle refusal split run refused

-- ---- what each seat was told

answered-push : (calls : List Recorded) (replies : List Reply) (call : Recorded) (reply : Reply) → length replies ≡ length calls
    → answered (calls ++ call ∷ []) (replies ++ reply ∷ []) ≡ answered calls replies ++ record { call = call; reply = reply } ∷ []
answered-push [] [] call reply same = refl
answered-push [] (r ∷ rs) call reply same = absurd (omega (arith, same))
answered-push (c ∷ cs) [] call reply same = absurd (omega (arith, same))
answered-push (c ∷ cs) (r ∷ rs) call reply same =
    let one : Answered = record { call = c; reply = r } in
    ap (λ all. one ∷ all) (answered-push cs rs call reply (omega (arith, same)))

-- the replies of a book's record, with one call more
replies-more : (old : BookState) (seat : ℕ) (event : Event) (reply : Reply) (new : BookState) (was : IsBook old) (is : IsBook new) → Extends old seat event reply new → is.replies ≡ was.replies ++ reply ∷ []
replies-more old seat event reply new was is extends =
    let call : Stored = record { event = event; slot = slot_of reply } in
    let more : StoredRun old.base (stored_of old.calls ++ call ∷ []) (was.replies ++ reply ∷ []) new.live =
    stored_run_more old.base (stored_of old.calls) was.replies old.live call reply new.live (stored_run old was) refl extends.step in
    let calls : stored_of new.calls ≡ stored_of old.calls ++ call ∷ [] = ap stored_of extends.calls ∙ stored_of-push old.calls (recorded seat event reply) in
    let here : StoredRun new.base (stored_of new.calls) (was.replies ++ reply ∷ []) new.live =
    subst (λ (s : State). StoredRun s (stored_of new.calls) (was.replies ++ reply ∷ []) new.live) (sym extends.base)
    (subst (λ (cs : List Stored). StoredRun old.base cs (was.replies ++ reply ∷ []) new.live) (sym calls) more) in
    sym (one-record-law new is (was.replies ++ reply ∷ []) new.live here).0

answered-more : (old : BookState) (seat : ℕ) (event : Event) (reply : Reply) (new : BookState) (was : IsBook old) (is : IsBook new) → Extends old seat event reply new
    → answered new.calls is.replies ≡ answered old.calls was.replies ++ record { call = recorded seat event reply; reply = reply } ∷ []
answered-more old seat event reply new was is extends =
    let counts : length was.replies ≡ length old.calls = stored_run_length old.base (stored_of old.calls) was.replies old.live (stored_run old was) ∙ length-stored_of old.calls in
    (λ k. answered (extends.calls k) (replies-more old seat event reply new was is extends k)) ∙ answered-push old.calls was.replies (recorded seat event reply) reply counts

-- of a list with one call more
of_seat-push : (seat : ℕ) (all : List Answered) (one : Answered) → of_seat seat (all ++ one ∷ []) ≡ of_seat seat all ++ of_seat seat (one ∷ [])
of_seat-push seat all one = filter-append (λ (a : Answered). nat_eq a.call.seat seat) all (one ∷ [])

own-test : (seat : ℕ) → nat_eq seat seat ≡ true
own-test seat = grind (arith, nat_tests)

other-test : (seat other : ℕ) → other ≢ seat → nat_eq seat other ≡ false
other-test seat other differs = grind (arith, nat_tests)

append-nil : {X : Type 0} (xs : List X) → xs ++ [] ≡ xs
append-nil [] = refl
append-nil (x ∷ xs) = ap (λ ys. x ∷ ys) (append-nil xs)

pub told-law : ToldLaw
told-law old seat event reply new was is extends =
    let one : Answered = record { call = recorded seat event reply; reply = reply } in
    let all : List Answered = answered old.calls was.replies in
    let more : answered new.calls is.replies ≡ all ++ one ∷ [] = answered-more old seat event reply new was is extends in
    let grown : (s : ℕ) → of_seat s (answered new.calls is.replies) ≡ of_seat s all ++ of_seat s (one ∷ []) = λ s. ap (of_seat s) more ∙ of_seat-push s all one in
    record {
      own = grown seat ∙ ap (λ b. of_seat seat all ++ cond b (one ∷ []) []) (own-test seat);
      others = λ other differs. grown other ∙ ap (λ b. of_seat other all ++ cond b (one ∷ []) []) (other-test seat other differs) ∙ append-nil (of_seat other all);
    }
