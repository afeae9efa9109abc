use Rattle.std.proofs.Common.{◌+◌, arith}
use Rattle.tcp_relay.proofs.SeatingLemmas.{few_more, room_less}
use Rattle.tcp_relay.proofs.leaving.put_place.Goals as goal

pub returns-in-None-clause-more : goal.returns-in-None-clause-more
returns-in-None-clause-more g c most places few = few_more most (most + 3) places c.args.refs.now.items (omega (arith)) few

pub returns-in-None-clause-room : goal.returns-in-None-clause-room
returns-in-None-clause-room g c spare has = room_less spare (spare + 3) c.args.refs.now.items (omega (arith)) has
