use Rattle.proxy_header.proofs.WrittenLemmas.{written_law, written_room}
use Rattle.proxy_header.proofs.laws.written_is_read.Goals as goal

pub returns-clause-read : goal.returns-clause-read
returns-clause-read c = written_law c.gives_what_is_spelled.ensures.spelled c.printed_reads_back.ensures

pub returns-clause-room : goal.returns-clause-room
returns-clause-room c = written_room
