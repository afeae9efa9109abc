use Rattle.std.proofs.Common.{refl}
use Rattle.core.specs.Hash.DefaultHasher.{round}
use Rattle.key_index.proofs.sip.rounded.Goals as goal

pub returns : goal.returns
unfolding round
returns c = rw (c.rotate_left-6.ensures, c.rotate_left-5.ensures, c.rotate_left-4.ensures, c.rotate_left-3.ensures, c.rotate_left-2.ensures, c.rotate_left.ensures) refl
