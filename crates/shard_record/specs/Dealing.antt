-- What is left of the first token while others are dealt from it: to seats, and to keepers.
use Rattle.std.specs.Prelude.{◌≡◌, ℕ, ◌+◌, ◌-◌, ◌<◌, ◌≤◌, nat_le, Bool, [], map}
use Rattle.std.specs.List.{range_with_len}
use Rattle.shard_record.specs.declared.view.Part.{Part}
use Rattle.shard_record.specs.Parts.{caller}
use Rattle.shard_record.specs.Views.{View, at}
use Rattle.shard_record.specs.Telling.{IsSeer}

-- of a book nothing was called; the token keeps its record or doesn't, and may call for the seats from `next` on
abbrev pub begun : Bool → ℕ → ℕ → Part
begun keeps next seats = record { keeps = keeps; log = []; told = []; held = []; callers = map (λ number. caller number []) (range_with_len next (seats - next)) }

-- the records of the books from `kept` on are left, and of each book the seats from `next` on
abbrev pub IsLeft : ℕ → ℕ → ℕ → ℕ → View → Type 0
IsLeft kept books next seats view = (book : ℕ) → book < books → at book view ≡ begun (nat_le kept book) next seats

-- how many books and seats there are, and how many of them were dealt
pub record DealerState : Type 0 where
  pub books : ℕ
  pub kept : ℕ
  pub seats : ℕ
  pub seated : ℕ

-- so many books are left, and seats for so many callers
pub record HasLeft (dealer : DealerState) (more callers : ℕ) : Type 0 where
  pub books : dealer.kept + more ≤ dealer.books
  pub seats : dealer.seated + callers ≤ dealer.seats

-- whoever has the token may call any of so many books, each for one seat
abbrev pub SeesAll : ℕ → View → Type 0
SeesAll books view = (book : ℕ) → book < books → IsSeer book view
