use Rattle.shard_record.proofs.record.Record.part_keeper.Given as goal

-- the book that is meant
abbrev pub ghosts-keeper_of : goal.ghosts-keeper_of
ghosts-keeper_of g a = record { book = a.book }
