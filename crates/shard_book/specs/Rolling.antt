-- What a roll of a table's books does, and what it leaves.
use Rattle.std.specs.Prelude.{◌≡◌, ℕ, ◌<◌, ◌^◌, ◌-◌, min, List, ◌++◌, length, map, sum_by, take, drop}
use Rattle.shard_book.specs.BookState.{BookState, IsBook, rolled}
use Rattle.shard_book.specs.BooksState.{BooksState}

-- how many calls the records of a table's shards have together; one count ends at 2^64 - 1
abbrev pub calls_in : BooksState → ℕ
calls_in table = sum_by (λ (book : BookState). length book.calls) table.books

abbrev pub calls_counted : BooksState → ℕ
calls_counted table = min (calls_in table) (2 ^ 64 - 1)

-- every book rolled
abbrev pub rolled_books : BooksState → BooksState
rolled_books table = record table { books = map rolled table.books }

-- the books of the first shards rolled, and the others as they were
abbrev pub rolled_first : ℕ → List BookState → List BookState
rolled_first count books = map rolled (take count books) ++ drop count books

-- where the roll of a book was refused: those before it are rolled; it stays as it was, and so do those behind it
pub record RollsInPart (old new : BooksState) : Type 0 where
  pub count : ℕ
  pub within : count < length old.books
  pub books : new ≡ record old { books = rolled_first count old.books }

-- ---- what was rolled answers as before

-- a book's record, and one that begins where the book stood, as the one record that there is without a roll
abbrev pub joined : BookState → BookState → BookState
joined book later = record { base = book.base; calls = book.calls ++ later.calls; live = later.live }

-- that record leads from the same base to what is now, and its replies are those of the one and then of the other
pub record IsOneRecord (book later : BookState) (was : IsBook book) (is : IsBook later) : Type 0 where
  pub whole : IsBook (joined book later)
  pub replies : whole.replies ≡ was.replies ++ is.replies

-- whatever a book is asked behind a roll, it answers, and is then, what it would have answered and been without one
abbrev pub RollingLaw : Type 0
RollingLaw = (book later : BookState) (was : IsBook book) (is : IsBook later) → later.base ≡ (rolled book).base → IsOneRecord book later was is
