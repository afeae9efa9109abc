use Rattle.byte_ports.proofs.Pieces.{in_prefix}
use Rattle.table_texts.specs.Bytes.{bytes_of}
use Rattle.table_cli.proofs.show_matching.answer_filtered.Goals as goal

pub returns-clause-answer : goal.returns-clause-answer
returns-clause-answer g c =
    (c.now-moment.result, bytes_of c.do_filtered-answer.result, c.now-moment.ensures.shows, c.do_filtered-answer.ensures, in_prefix _ _ _ _ _ _ c.bytes.ensures c.in-Err.ensures.prefix)
