use Rattle.std.proofs.Common.{◌∙◌, arith, sym}
use Rattle.rule_addresses.proofs.PrefixLemmas.{kept_whole, one_more}
use Rattle.rule_addresses.proofs.masking.keep_first.Goals as goal

pub returns-then-count-bytes : goal.returns-then-count-bytes
returns-then-count-bytes c = sym (kept_whole c.args.count c.args.bytes.now c.if-count-bytes.true)

pub loop-byte-preserved : goal.loop-byte-preserved
loop-byte-preserved c =
    rw c.saturating_sub-left.ensures
    (one_more c.loop-byte.left c.loop-byte.byte-index c.byte_prefix.result c.loop-byte.bytes (omega arith) c.byte_prefix.ensures ∙ c.loop-byte.invariant)
