use Rattle.std.proofs.Common.{refl}
use Rattle.core.specs.Hash.DefaultHasher.{with_keys}
use Rattle.key_index.proofs.sip.keyed.Goals as goal

pub returns : goal.returns
unfolding with_keys
returns c = refl
