use Rattle.tcp_relay.proofs.ShareLemmas.{all_shares}
use Rattle.tcp_relay.proofs.laws.shares.Goals as goal

pub returns : goal.returns
returns c = all_shares
