use Rattle.shard_record.proofs.record.Record.part_book.Given as goal

-- the book that is meant
abbrev pub ghosts-book_of : goal.ghosts-book_of
ghosts-book_of g a = record { book = a.book }
