use Rattle.std.proofs.Common.{refl}
use Rattle.byte_ports.proofs.Pieces.{in_prefix}
use Rattle.stickd_script.proofs.server.write_text.Goals as goal

pub returns-in-Err-clause-part : goal.returns-in-Err-clause-part
returns-in-Err-clause-part g c =
    in_prefix g.W.Sink.tells (g.W.Sink.written c.args.writer.now) (g.W.Sink.written c.write_all.new.writer) _ c.args.text.now c.in-Err.field-0.written refl c.in-Err.ensures.prefix
