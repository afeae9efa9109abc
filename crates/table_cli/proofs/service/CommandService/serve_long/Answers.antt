use Rattle.byte_ports.proofs.Pieces.{in_prefix}
use Rattle.table_cli.proofs.service.CommandService.serve_long.Goals as goal

pub returns-in-Err-clause-part : goal.returns-in-Err-clause-part
returns-in-Err-clause-part g c = in_prefix _ _ _ _ _ _ c.bytes.ensures c.in-Err.ensures.prefix
