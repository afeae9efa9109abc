-- On rolls of books.
use Rattle.std.proofs.Common.{rules, ◌≡◌, ◌⊎◌, inl, inr, ⊎_elim, ℕ, zero, suc, ◌+◌, ◌<◌, List, [], ◌∷◌, ◌++◌, Some, length, map, slice_get, refl, sym, ap, ◌∙◌, subst, arith}
use Rattle.std.specs.Prelude.{Result, Ok, Err, OnOk, OnErr, slice_set}
use Rattle.std.proofs.lemmas.List.Elements.{All-append}
use Rattle.stick_model.specs.State.{State}
use Rattle.stick_model.specs.Run.{LastingRun}
use Rattle.stick_model.specs.Limits.{IsTableEvent}
use Rattle.stick_model.specs.declared.events.Stored.{Stored}
use Rattle.stick_model.specs.declared.replies.Reply.{Reply}
use Rattle.shard_book.specs.declared.recorded.Recorded.{Recorded}
use Rattle.shard_book.specs.BookState.{BookState, IsBook, rolled, stored_of}
use Rattle.shard_book.specs.BooksState.{AreBooks, BooksState}
use Rattle.shard_book.specs.Keeping.{part_of}
use Rattle.shard_book.specs.Rolling.{RollingLaw, RollsInPart, joined, rolled_books, rolled_first}
use Rattle.shard_book.proofs.BookLemmas.{live_limits}
use Rattle.shard_book.proofs.RecordLemmas.{stored_of-append}

-- ---- a book

pub rolled_is_book : (book : BookState) → IsBook book → IsBook (rolled book)
rolled_is_book book is = record { limits = live_limits book is; base_legal = is.live_legal; events = search rules; replies = []; run = refl; live_legal = is.live_legal }

-- its live state stays and is the base, and it has no calls
pub rolled_so : (old : BookState) (base live : State) (calls : List Recorded) → IsBook old → base ≡ old.live → live ≡ old.live → calls ≡ [] → IsBook (record { base = base; calls = calls; live = live })
rolled_so old base live calls is same stays none =
    subst (λ (y : State × List Recorded × State). IsBook (record { base = y.0; calls = y.1; live = y.2 })) (λ k. (sym same k, sym none k, sym stays k)) (rolled_is_book old is)

-- ---- the books of a table

pub length-rolled_first : (count : ℕ) (books : List BookState) → length (rolled_first count books) ≡ length books
length-rolled_first zero books = refl
length-rolled_first (suc count) [] = refl
length-rolled_first (suc count) (book ∷ books) = ap suc (length-rolled_first count books)

some_of : {X : Type 0} (x y : X) → Some x ≡ Some y → x ≡ y
some_of x y e = cc

-- a book of them was there before, and is as it was or rolled
pub record Was (books : List BookState) (i : ℕ) (book : BookState) : Type 0 where
  pub before : BookState
  pub at : slice_get books i ≡ Some before
  pub is : (book ≡ rolled before) ⊎ (book ≡ before)

pub rolled_first-at : (count : ℕ) (books : List BookState) (i : ℕ) (book : BookState) → slice_get (rolled_first count books) i ≡ Some book → Was books i book
rolled_first-at zero books i book at = record { before = book; at = at; is = inr refl }
rolled_first-at (suc count) [] i book at = cc
rolled_first-at (suc count) (first ∷ rest) zero book at = record { before = first; at = refl; is = inl (sym (some_of (rolled first) book at)) }
rolled_first-at (suc count) (first ∷ rest) (suc i) book at =
    let was : Was rest i book = rolled_first-at count rest i book at in
    record { before = was.before; at = was.at; is = was.is }

pub rolled_are_books : (count : ℕ) (table : BooksState) → AreBooks table → AreBooks (record table { books = rolled_first count table.books })
rolled_are_books count table are =
    let same : length (rolled_first count table.books) ≡ length table.books = length-rolled_first count table.books in
    record {
      limits = are.limits;
      some = omega (arith, same, are.some);
      few = omega (arith, same, are.few);
      places = omega (arith, same, are.places);
      each = λ i book at.
          let was : Was table.books i book = rolled_first-at count table.books i book at in
          let its = are.each i was.before was.at in
          let size : was.before.live.spec ≡ part_of table.spec (length (rolled_first count table.books)) i = its.1 ∙ ap (λ n. part_of table.spec n i) (sym same) in
          ⊎_elim
          (λ (new : book ≡ rolled was.before). (subst IsBook (sym new) (rolled_is_book was.before its.0), ap (λ (b : BookState). b.live.spec) new ∙ size))
          (λ (same : book ≡ was.before). (subst IsBook (sym same) its.0, ap (λ (b : BookState). b.live.spec) same ∙ size))
          was.is;
    }

pub all_rolled : (books : List BookState) → map rolled books ≡ rolled_first (length books) books
all_rolled [] = refl
all_rolled (book ∷ books) = ap (λ bs. rolled book ∷ bs) (all_rolled books)

pub all_are_books : (table : BooksState) → AreBooks table → AreBooks (rolled_books table)
all_are_books table are = subst (λ (bs : List BookState). AreBooks (record table { books = bs })) (sym (all_rolled table.books)) (rolled_are_books (length table.books) table are)

-- ---- one record

lasting_run_join : (old : State) (calls : List Stored) (replies : List Reply) (middle : State) (later : List Stored) (rest : List Reply) (new : State)
    → LastingRun old calls replies middle → LastingRun middle later rest new → LastingRun old (calls ++ later) (replies ++ rest) new
lasting_run_join old [] [] middle later rest new run more = subst (λ (s : State). LastingRun s later rest new) run more
lasting_run_join old [] (r ∷ rs) middle later rest new run more = absurd run
lasting_run_join old (c ∷ cs) [] middle later rest new run more = absurd run
lasting_run_join old (c ∷ cs) (r ∷ rs) middle later rest new run more = (run.0, run.1, run.2, run.3, lasting_run_join run.0 cs rs middle later rest new run.4 more)

pub rolling-law : RollingLaw
rolling-law book later was is begins =
    let run : LastingRun book.live (stored_of later.calls) is.replies later.live = subst (λ (s : State). LastingRun s (stored_of later.calls) is.replies later.live) begins is.run in
    let both : LastingRun book.base (stored_of book.calls ++ stored_of later.calls) (was.replies ++ is.replies) later.live =
    lasting_run_join book.base (stored_of book.calls) was.replies book.live (stored_of later.calls) is.replies later.live was.run run in
    let whole : IsBook (joined book later) = record {
      limits = was.limits;
      base_legal = was.base_legal;
      events = All-append (λ (call : Recorded). IsTableEvent call.stored.event) book.calls later.calls was.events is.events;
      replies = was.replies ++ is.replies;
      run = subst (λ (cs : List Stored). LastingRun book.base cs (was.replies ++ is.replies) later.live) (sym (stored_of-append book.calls later.calls)) both;
      live_legal = is.live_legal;
    } in
    record { whole = whole; replies = refl }

-- ---- the loop

-- the book at a place, where those before it are rolled, and one more
pub rolled_more : (count : ℕ) (old books : List BookState) (before after : BookState) → count < length old → books ≡ rolled_first count old → slice_get books count ≡ Some before → after ≡ rolled before
    → slice_set books count after ≡ rolled_first (count + 1) old
rolled_more count old books before after within are at is =
    ap (λ bs. slice_set bs count after) are ∙ ap (slice_set (rolled_first count old) count) is ∙ write count old before within (ap (λ bs. slice_get bs count) (sym are) ∙ at) ∙ (let next : suc count ≡ count + 1 = omega arith in ap (λ n. rolled_first n old) next)
  where
    write : (count : ℕ) (old : List BookState) (before : BookState) → count < length old → slice_get (rolled_first count old) count ≡ Some before → slice_set (rolled_first count old) count (rolled before) ≡ rolled_first (suc count) old
    write zero [] before within at = cc
    write zero (book ∷ books) before within at = ap (λ b. rolled b ∷ books) (sym (some_of book before at))
    write (suc count) [] before within at = cc
    write (suc count) (book ∷ books) before within at = ap (λ bs. rolled book ∷ bs) (write count books before (omega (arith, within)) at)

-- ---- what the code leaves

module _ {E : Type 0} (inside old : BooksState) (result : Result (Unit {0}) E) (new : List BookState) (same : inside ≡ old) where
  abbrev pub InPart : Type 0
  InPart = (count : ℕ) × (count < length inside.books) × (new ≡ rolled_first count inside.books)

  pub are_books : AreBooks inside → OnOk result (new ≡ map rolled inside.books) → OnErr result InPart → AreBooks (record inside { books = new })
  are_books are ok err = by result ok err
    where
      by : (result : Result (Unit {0}) E) → OnOk result (new ≡ map rolled inside.books) → OnErr result InPart → AreBooks (record inside { books = new })
      by (Ok done) ok err = subst (λ (bs : List BookState). AreBooks (record inside { books = bs })) (sym ok) (all_are_books inside are)
      by (Err error) ok err = subst (λ (bs : List BookState). AreBooks (record inside { books = bs })) (sym err.2) (rolled_are_books err.0 inside are)

  pub rolls_in_part : OnErr result InPart → OnErr result (RollsInPart old (record inside { books = new }))
  rolls_in_part err = by result err
    where
      by : (result : Result (Unit {0}) E) → OnErr result InPart → OnErr result (RollsInPart old (record inside { books = new }))
      by (Ok done) err = tt
      by (Err error) err =
          subst (λ (table : BooksState). RollsInPart table (record inside { books = new })) same
          (record { count = err.0; within = err.1; books = ap (λ (bs : List BookState). record inside { books = bs }) err.2 })
