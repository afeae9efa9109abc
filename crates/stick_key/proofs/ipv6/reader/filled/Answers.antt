use Rattle.stick_key.proofs.Ipv6Sides.{filled_is}
use Rattle.stick_key.proofs.ipv6.reader.filled.Goals as goal

pub returns : goal.returns
returns c = filled_is c.args.high.now c.args.low.now _ _ c.copy_from_slice.ensures.after c.copy_from_slice-2.ensures.after c.requires
