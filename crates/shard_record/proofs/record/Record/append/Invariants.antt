use Rattle.shard_record.proofs.record.Record.append.Given as goal

-- the call that is noted
abbrev pub ghosts-append_as : goal.ghosts-append_as
ghosts-append_as g a = record { called = a.book; event = a.event.now; reply = a.reply.now }
