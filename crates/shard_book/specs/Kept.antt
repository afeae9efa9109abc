-- A book beside the record of all its calls since it was opened.
use Rattle.std.specs.Prelude.{◌≡◌, ℕ, List, ◌++◌, map}
use Rattle.stick_model.specs.State.{State}
use Rattle.stick_model.specs.Step.{slot_of}
use Rattle.stick_model.specs.declared.specification.Spec.{Spec}
use Rattle.stick_model.specs.declared.events.Stored.{Stored}
use Rattle.shard_record.specs.declared.view.Call.{Call}
use Rattle.shard_record.specs.Calls.{IsHistoryOf}
use Rattle.shard_book.specs.BookState.{BookState, stored_of}

-- the book, which one it is, and the record of its calls
pub record KeptState : Type 0 where
  pub book : BookState
  pub number : ℕ
  pub log : List Call

-- how a book stores a call
abbrev pub stored : Call → Stored
stored one = record { event = one.event; slot = slot_of one.reply }

-- the calls are all those of one table since it was opened, and that was made with this
pub record IsMadeWith (spec : Spec) (log : List Call) : Type 0 where
  pub live : State
  pub history : IsHistoryOf log live
  pub made : live.spec ≡ spec

-- the record is what was before the book's base, and then the calls that the book has since. What was before leads to the base,
-- and all of it to what the table is now; and that was made with this
pub record IsKept (spec : Spec) (book : BookState) (log : List Call) : Type 0 where
  pub before : List Call
  pub since : List Call
  pub parts : log ≡ before ++ since
  pub base : IsHistoryOf before book.base
  pub calls : stored_of book.calls ≡ map stored since
  pub live : IsHistoryOf log book.live
  pub made : book.live.spec ≡ spec
