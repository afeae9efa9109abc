use Rattle.byte_ports.proofs.Pieces.{in_prefix}
use Rattle.table_texts.specs.Bytes.{bytes_of}
use Rattle.table_cli.proofs.serve.answer_command.Goals as goal

pub returns-clause-answer : goal.returns-clause-answer
returns-clause-answer g c = (bytes_of c.perform-answer.result, (c.now-moment.result, c.now-moment.ensures.shows, c.perform-answer.ensures), in_prefix _ _ _ _ _ _ c.bytes.ensures c.in-Err.ensures.prefix)
