use Rattle.key_index.proofs.SipLemmas.{of_sixteen}
use Rattle.key_index.proofs.sip.hash_of_16.Goals as goal

pub returns : goal.returns
returns c = rw (c.finished.ensures, c.with_word.ensures, c.with_word-state.ensures, c.keyed.ensures, c.word-2.ensures, c.word.ensures) (of_sixteen c.args.seed c.args.bytes.now c.requires)
