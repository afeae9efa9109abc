use Rattle.std.proofs.Common.{◌∙◌}
use Rattle.table_texts.proofs.ComparisonLemmas.{one_more}
use Rattle.table_texts.proofs.comparisons.read_comparisons.Goals as goal

pub loop-word-preserved : goal.loop-word-preserved
loop-word-preserved c =
    one_more c.loop-word.all c.push.new.self c.in_ok-one.one _ _ _ _ _ _ _ c.in-Some.ensures.word c.in-Some-next.ensures.word c.in-Some-next-2.ensures.word c.in_ok-one.ensures c.in-Ok.ensures.ok
    ∙ c.loop-word.invariant
