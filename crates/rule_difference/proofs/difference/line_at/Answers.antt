use Rattle.rule_words.specs.Lines.{lines_of}
use Rattle.rule_difference.proofs.LineLemmas.{after_next}
use Rattle.rule_difference.proofs.difference.line_at.Goals as goal

pub loop-taken-preserved : goal.loop-taken-preserved
loop-taken-preserved c =
    after_next c.next-passed.result (lines_of c.args.text.now) c.loop-taken.lines c.next-passed.new.self c.loop-taken.taken
    c.next-passed.ensures c.loop-taken.invariant
