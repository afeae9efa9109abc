-- What the book of a shard has recorded, as any shard answers.
use Rattle.std.proofs.Common.{◌≡◌, refl, sym, ap, subst, ◌∙◌, ℕ, List, [], ◌∷◌, ◌++◌, slice_get, Option, Some, None}
use Rattle.std.specs.Option.{option_and_then}
use Rattle.stick_model.specs.Run.{Run, StoredRun, events_of, stored_calls}
use Rattle.stick_model.specs.State.{State, empty_table}
use Rattle.stick_model.specs.Step.{slot_of}
use Rattle.stick_model.specs.declared.events.Event.{Event}
use Rattle.stick_model.specs.declared.events.Stored.{Stored}
use Rattle.stick_model.specs.declared.replies.Reply.{Reply}
use Rattle.stick_model.specs.declared.specification.Spec.{Spec}
use Rattle.stick_model.proofs.RunLemmas.{run_determined, run_spec, stored_from_run}
use Rattle.rule_model.specs.declared.sections.Setup.{Setup}
use Rattle.shard_book.specs.BookState.{BookState, IsBook, recorded, stored_of}
use Rattle.shard_book.proofs.BookLemmas.{stored_of-push, stored_run}
use Rattle.admit_drive.specs.Calls.{AnswersAt}
use Rattle.admit_drive.specs.Tables.{AreTablesOf, TableState, book_at}
use Rattle.admit_port.specs.Calls.{Call}
use Rattle.shard_port.specs.Books.{connections_seat}
use Rattle.admit_drive.proofs.SumLemmas.{some_same}
use Rattle.admit_drive.proofs.ShardLemmas.{replaces_book}

-- since an empty table the book of the shard has recorded these events, which were replied so
pub record IsRecorded (table part : ℕ) (tables : List TableState) (spec : Spec) (events : List Event) (replies : List Reply) : Type 0 where
  pub book : BookState
  pub at : book_at tables table part ≡ Some book
  pub base : book.base ≡ empty_table spec
  pub calls : stored_of book.calls ≡ stored_calls events replies

stored_push : (old : State) (events : List Event) (replies : List Reply) (new : State) (event : Event) (reply : Reply) → Run old events replies new
    → stored_calls (events ++ event ∷ []) (replies ++ reply ∷ []) ≡ stored_calls events replies ++ record { event = event; slot = slot_of reply } ∷ []
stored_push old [] [] new event reply run = refl
stored_push old [] (r ∷ rs) new event reply run = absurd run
stored_push old (e ∷ es) [] new event reply run = absurd run
stored_push old (e ∷ es) (r ∷ rs) new event reply run = let call : Stored = record { event = e; slot = slot_of r } in ap (λ cs. call ∷ cs) (stored_push run.0 es rs new event reply run.2)

pub events_stored : (old : State) (events : List Event) (replies : List Reply) (new : State) → Run old events replies new → events_of (stored_calls events replies) ≡ events
events_stored old [] [] new run = refl
events_stored old [] (r ∷ rs) new run = absurd run
events_stored old (e ∷ es) [] new run = absurd run
events_stored old (e ∷ es) (r ∷ rs) new run = ap (λ more. e ∷ more) (events_stored run.0 es rs new run.2)

module _ (table part : ℕ) (old new : List TableState) (call : Call) (reply : Reply) (spec : Spec) (made : List Event) (told : List Reply) (answers_it : AnswersAt old call reply new) (was : IsRecorded table part old spec made told) where
  -- its own answer is recorded behind the others
  pub recorded_more : (live : State) → Run (empty_table spec) made told live → table ≡ call.table → part ≡ call.shard → IsRecorded table part new spec (made ++ call.event ∷ []) (told ++ reply ∷ [])
  recorded_more live run in_table in_shard =
      let books = replaces_book old new call reply answers_it in
      let before : BookState = answers_it.extends.before in
      let same : was.book ≡ before = some_same was.book before (sym was.at ∙ (λ k. book_at old (in_table k) (in_shard k)) ∙ books.was) in
      record {
        book = answers_it.extends.after;
        at = (λ k. book_at new (in_table k) (in_shard k)) ∙ books.is;
        base = answers_it.extends.extends.base ∙ ap (λ (b : BookState). b.base) (sym same) ∙ was.base;
        calls = ap stored_of answers_it.extends.extends.calls ∙ stored_of-push before.calls (recorded connections_seat call.event reply)
            ∙ ap (λ (b : BookState). stored_of b.calls ++ record { event = call.event; slot = slot_of reply } ∷ []) (sym same)
            ∙ ap (λ cs. cs ++ record { event = call.event; slot = slot_of reply } ∷ []) was.calls
            ∙ sym (stored_push (empty_table spec) made told live call.event reply run);
      }

-- the replies of a book's record are those of the run that it recorded
pub record IsOwnRun (book : BookState) (is : IsBook book) (spec : Spec) (events : List Event) (replies : List Reply) : Type 0 where
  pub events_are : events_of (stored_of book.calls) ≡ events
  pub replies_are : is.replies ≡ replies
  pub since_empty : book.base ≡ empty_table book.live.spec

pub own_of_book : (table part : ℕ) (tables : List TableState) (spec : Spec) (events : List Event) (replies : List Reply) (live : State) (of : IsRecorded table part tables spec events replies) (is : IsBook of.book)
    → Run (empty_table spec) events replies live → of.book.live ≡ live → IsOwnRun of.book is spec events replies
own_of_book table part tables spec events replies live of is run same =
    let stored = stored_from_run (empty_table spec) events replies live run in
    let other = subst (λ (s : State). StoredRun s (stored_calls events replies) is.replies of.book.live) of.base
    (subst (λ cs. StoredRun of.book.base cs is.replies of.book.live) of.calls (stored_run of.book is)) in
    record {
      events_are = ap events_of of.calls ∙ events_stored (empty_table spec) events replies live run;
      replies_are = (run_determined (empty_table spec) (stored_calls events replies) is.replies replies of.book.live live other stored).0;
      since_empty = of.base ∙ ap empty_table (sym (run_spec (empty_table spec) events replies live run) ∙ ap (λ (s : State). s.spec) (sym same));
    }

-- the book of a shard of a setup's tables is one
pub book_there : (setup : Setup) (tables : List TableState) (table part : ℕ) (book : BookState) → AreTablesOf setup tables → book_at tables table part ≡ Some book → IsBook book
book_there setup tables table part book are at = by (slice_get tables table) refl at
  where
    by : (o : Option TableState) → slice_get tables table ≡ o → option_and_then (λ (found : TableState). slice_get found.state.books part) o ≡ Some book → IsBook book
    by None is some = cc
    by (Some found) is some = ((are.each table found is).2.books.each part book some).0
