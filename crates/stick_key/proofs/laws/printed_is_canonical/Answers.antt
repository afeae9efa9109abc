use Rattle.stick_key.proofs.Ipv6Rules.{printed_is_canonical}
use Rattle.stick_key.proofs.laws.printed_is_canonical.Goals as goal

pub returns : goal.returns
returns c = printed_is_canonical
