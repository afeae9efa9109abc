use Rattle.stick_key.proofs.Ipv6Sides.{full_none}
use Rattle.stick_key.proofs.ipv6.reader.read_full.Goals as goal

pub returns-clause-none : goal.returns-clause-none
returns-clause-none c = full_none _ _ _ c.in_ok-read_groups.ensures.found c.all.ensures
