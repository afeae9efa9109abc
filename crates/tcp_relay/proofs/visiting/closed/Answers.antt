use Rattle.std.proofs.Common.{◌∙◌, refl, ap, is_some}
use Rattle.admit_core.specs.Connection.{closed}
use Rattle.tcp_relay.proofs.ConnectionLemmas.{goes_on}
use Rattle.tcp_relay.proofs.EndingGoes.{close_ends}
use Rattle.tcp_relay.proofs.visiting.closed.Goals as goal

pub returns-clause-connection : goal.returns-clause-connection
returns-clause-connection g c =
    goes_on g.W.Width.tables g.W.Width.shards c.args.conn c.close.new.self (λ connection. closed connection c.args.bytes_in c.args.bytes_out) (λ connection. refl) c.close.ensures.stands
    (ap (λ p. is_some p.given) c.close.ensures.progress ∙ c.requires.connection.given) (ap (λ p. p.held) c.close.ensures.progress) c.requires.connection

pub returns-clause-ending : goal.returns-clause-ending
returns-clause-ending g c = close_ends c.args.conn c.close.new.self c.args.bytes_in c.args.bytes_out c.requires.connection.given c.requires.rests c.close.ensures.progress
