use Rattle.std.proofs.Common.{sym}
use Rattle.tcp_link.proofs.WayLemmas.{way_behind_turn}
use Rattle.tcp_link.proofs.way.Way.carry.Goals as goal

pub returns-clause-way : goal.returns-clause-way
returns-clause-way c = way_behind_turn c.args.self.now _ c.requires.way (sym c.if-is_over.ensures) c.turn-self.ensures.turned c.turn-self.ensures.over
