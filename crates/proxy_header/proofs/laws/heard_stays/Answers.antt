use Rattle.proxy_header.proofs.HeardLemmas.{heard_stays}
use Rattle.proxy_header.proofs.laws.heard_stays.Goals as goal

pub returns : goal.returns
returns c = heard_stays
