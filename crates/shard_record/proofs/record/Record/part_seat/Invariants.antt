use Rattle.shard_record.proofs.record.Record.part_seat.Given as goal

-- the seat that is meant
abbrev pub ghosts-seat_of : goal.ghosts-seat_of
ghosts-seat_of g a = record { asked = a.book; number = a.number }
