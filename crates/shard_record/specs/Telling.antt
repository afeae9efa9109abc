-- What a call of a book tells, to who made it.
use Rattle.std.specs.Prelude.{◌≡◌, ℕ, true, Some, List, [], ◌∷◌, ◌++◌}
use Rattle.std.specs.List.{AllByRecursion}
use Rattle.stick_model.specs.Key.{Key}
use Rattle.stick_model.specs.State.{State, key_of}
use Rattle.stick_model.specs.declared.rows.Ticket.{Ticket}
use Rattle.stick_model.specs.declared.events.Event.{Event}
use Rattle.stick_model.specs.declared.events.Event.TheVariants.{Release}
use Rattle.stick_model.specs.declared.replies.Reply.{Reply}
use Rattle.shard_record.specs.declared.view.Call.{Call}
use Rattle.shard_record.specs.declared.view.Caller.{Caller}
use Rattle.shard_record.specs.declared.view.Part.{Part}
use Rattle.shard_record.specs.Calls.{Answers, Held, IsHistory, IsHistoryOf, call, calls_by}
use Rattle.shard_record.specs.Parts.{caller, caller_number, holder, keeper, speaker}
use Rattle.shard_record.specs.Views.{View, at, only, put}

-- ---- who has tokens

-- how much of a book's record a token knows
abbrev pub log_of : ℕ → View → List Call
log_of book view = (at book view).log

-- a book's own token: it keeps the book's record, and has nothing else
abbrev pub IsKeeper : ℕ → View → Type 0
IsKeeper book view = view ≡ only book (keeper (log_of book view))

abbrev pub mine_in : List Caller → List Call
mine_in [] = []
mine_in (one ∷ more) = one.mine

-- the calls of a book that a seat made
abbrev pub mine_of : ℕ → View → List Call
mine_of book view = mine_in (at book view).callers

-- the number by which the record has them
abbrev pub number_of : ℕ → View → ℕ
number_of book view = caller_number (at book view).callers

-- of one book: how much of the record a seat knows, and the calls that it made
abbrev pub spoken : ℕ → List Call → List Call → Part
spoken number log mine = speaker log (caller number mine ∷ [])

-- a seat's token, as to a book: it knows a beginning of the record, and may call for one seat
abbrev pub IsSeer : ℕ → View → Type 0
IsSeer book view = at book view ≡ spoken (number_of book view) (log_of book view) (mine_of book view)

abbrev pub key_in : List Held → Key
key_in [] = []
key_in (held ∷ more) = held.1

-- the key of a reference to an entry of a book
abbrev pub key_at : ℕ → View → Key
key_at book view = key_in (at book view).held

-- its ticket
abbrev pub ticket_in : List Held → Ticket
ticket_in [] = record { number = 0; slot = 0 }
ticket_in (held ∷ more) = held.0

abbrev pub ticket_at : ℕ → View → Ticket
ticket_at book view = ticket_in (at book view).held

-- a reference's token: it has one ticket
abbrev pub IsReference : ℕ → View → Type 0
IsReference book view = view ≡ only book (holder (log_of book view) ((ticket_at book view, key_at book view) ∷ []))

-- a book's own token while it has references and seats of others
abbrev pub keeping_for : List Call → List Held → List Caller → Part
keeping_for log held callers = record { keeps = true; log = log; told = []; held = held; callers = callers }

-- nothing that the token was told is still to be compared
abbrev pub IsSettled : View → Type 0
IsSettled view = AllByRecursion (λ (part : Part). part.told ≡ []) view

-- what a book's keeper is: which book it is, and the calls that were noted
pub record KeeperState : Type 0 where
  pub book : ℕ
  pub log : List Call

-- ---- a call

-- the table whose calls these are has answered the event so
pub record HasAnswered (log : List Call) (event : Event) (reply : Reply) : Type 0 where
  pub live : State
  pub next : State
  pub history : IsHistoryOf log live
  pub answers : Answers live event reply next

abbrev pub IsNoRelease : Event → Type 0
IsNoRelease (Release now ticket) = ⊥
IsNoRelease event = Unit {0}

-- a seat is told of its call: the record is all that it knew, then what others did, then its call with its reply. That is the
-- history of one table. The seat's calls stand there, each once and in their order, and no others under its number. It knows as
-- much of the other books as it did
pub record IsTold (book : ℕ) (event : Event) (reply : Reply) (old new : View) : Type 0 where
  pub between : List Call
  pub log : log_of book new ≡ (log_of book old ++ between) ++ call (number_of book old) event reply ∷ []
  pub mine : mine_of book new ≡ mine_of book old ++ call (number_of book old) event reply ∷ []
  pub theirs : calls_by (number_of book old) (log_of book new) ≡ mine_of book new
  pub history : IsHistory (log_of book new)
  pub others : new ≡ put book (spoken (number_of book old) (log_of book new) (mine_of book new)) old

-- the ticket is out, whatever table has made these calls
abbrev pub IsOut : List Call → Ticket → Key → Type 0
IsOut log ticket key = (live : State) → IsHistoryOf log live → key_of ticket live.tickets ≡ Some key
