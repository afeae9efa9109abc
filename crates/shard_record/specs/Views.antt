-- What tokens know of many books, each of which has a record of its own.
use Rattle.std.specs.Prelude.{◌≡◌, ℕ, zero, suc, true, false, not, None, List, [], ◌∷◌, map, filter}
use Rattle.std.specs.List.{range_with_len}
use Rattle.atomic_table.specs.Seated.{TableId}
use Rattle.atomic_table.specs.Table.{Me, Step as TableStep}
use Rattle.stick_key.specs.declared.kind.KeyType.TheVariants.{Ip}
use Rattle.stick_model.specs.declared.specification.Spec.{Spec}
use Rattle.stick_model.specs.declared.events.Event.{Event}
use Rattle.stick_model.specs.declared.replies.Reply.{Reply}
use Rattle.shard_record.specs.declared.view.Caller.{Caller}
use Rattle.shard_record.specs.declared.view.Part.{Part}
use Rattle.shard_record.specs.Parts.{IsCompared, Kept, appended, caller, compared, is_caller, nobody, speaker}

-- the name of no record
abbrev pub no_record : TableId
no_record = record { words = 0; slots = 0; views_name = 0; atom = 0; block = 0; offset = 0; slot_names = [] }

-- what no table was made with
abbrev pub no_spec : Spec
no_spec = record { kind = Ip; size = 1; expire = None; nopurge = false; purge = 1; columns = []; max_refs = 1; life = 1; seed = 0 }

-- what a token knows of each book, by the book's number
abbrev pub View : Type 0
View = List Part

-- what it knows of a book; nothing of one behind the last
abbrev pub at : ℕ → View → Part
at book [] = nobody
at zero (part ∷ parts) = part
at (suc book) (part ∷ parts) = at book parts

-- the view with this for a book
abbrev pub put : ℕ → Part → View → View
put zero new [] = new ∷ []
put zero new (part ∷ parts) = new ∷ parts
put (suc book) new [] = nobody ∷ put book new []
put (suc book) new (part ∷ parts) = part ∷ put book new parts

-- of a book just this, and of the others nothing
abbrev pub only : ℕ → Part → View
only book part = put book part []

-- two views, book by book
abbrev pub paired : (Part → Part → Part) → View → View → View
paired f [] others = map (f nobody) others
paired f (part ∷ parts) [] = f part nobody ∷ paired f parts []
paired f (part ∷ parts) (other ∷ others) = f part other ∷ paired f parts others

-- ---- the rule

abbrev pub parts_at : ℕ → List View → List Part
parts_at book views = map (at book) views

-- each book has one record
abbrev pub AreKept : List View → Type 0
AreKept views = (book : ℕ) → Kept (parts_at book views)

-- the first token keeps the records of so many books, and may call for so many seats, by the numbers from 0 on
abbrev pub beginning : ℕ → Part
beginning seats = record { keeps = true; log = []; told = []; held = []; callers = map (λ number. caller number []) (range_with_len 0 seats) }

abbrev pub opening : ℕ → ℕ → View
opening books seats = map (λ book. beginning seats) (range_with_len 0 books)

-- ---- steps

-- a call of a book is noted
abbrev pub Appended : ℕ → Event → Reply → TableStep (Unit {0}) → Me (Unit {0}) View → ℕ → Me (Unit {0}) View → Type 0
Appended book event reply st old n new = (new.0 ≡ put book (appended event reply (at book old.0)) old.0) × (new.1 ≡ old.1)

-- what is known of each book is compared with what was told of it
abbrev pub AreCompared : View → View → Type 0
AreCompared old new = (book : ℕ) → IsCompared (at book old) (at book new)

abbrev pub Compared : TableStep (Unit {0}) → Me (Unit {0}) View → ℕ → Me (Unit {0}) View → Type 0
Compared st old n new = (new.0 ≡ map compared old.0) × AreCompared old.0 new.0 × (new.1 ≡ old.1)

-- all of a book goes to another token
abbrev pub without_book : ℕ → View → View
without_book book view = put book nobody view

abbrev pub book_alone : ℕ → View → View
book_alone book view = only book (at book view)

-- the right to keep a book's record goes to another token
abbrev pub not_keeping : Part → Part
not_keeping part = record { keeps = false; log = part.log; told = part.told; held = part.held; callers = part.callers }

abbrev pub keeping : Part → Part
keeping part = record { keeps = part.keeps; log = part.log; told = []; held = []; callers = [] }

abbrev pub without_keeper : ℕ → View → View
without_keeper book view = put book (not_keeping (at book view)) view

abbrev pub keeper_alone : ℕ → View → View
keeper_alone book view = only book (keeping (at book view))

-- a seat of a book goes to another token
abbrev pub not_calling : ℕ → Part → Part
not_calling number part = record { keeps = part.keeps; log = part.log; told = part.told; held = part.held; callers = filter (λ (one : Caller). not (is_caller number one)) part.callers }

abbrev pub calling : ℕ → Part → Part
calling number part = speaker part.log (filter (is_caller number) part.callers)

abbrev pub without_seat : ℕ → ℕ → View → View
without_seat book number view = put book (not_calling number (at book view)) view

abbrev pub seat_alone : ℕ → ℕ → View → View
seat_alone book number view = only book (calling number (at book view))
