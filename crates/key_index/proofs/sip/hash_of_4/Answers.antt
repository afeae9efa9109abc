use Rattle.key_index.proofs.SipLemmas.{of_four}
use Rattle.key_index.proofs.sip.hash_of_4.Goals as goal

pub returns : goal.returns
returns c = rw (c.finished.ensures, c.keyed.ensures, c.half_word.ensures) (of_four c.args.seed c.args.bytes.now c.requires)
