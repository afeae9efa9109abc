use Rattle.rule_words.specs.Lines.{lines_of}
use Rattle.rule_config.proofs.ReadLemmas.{reads_next, reads_none, reads_refused}
use Rattle.rule_config.proofs.config.read_lines.Goals as goal

pub loop-line-init : goal.loop-line-init
loop-line-init c = reads_none (lines_of c.args.text.now) c.new-lines.result c.new-read.result c.new-lines.ensures.lines c.new-read.ensures

pub returns-in-Err-clause-fault : goal.returns-in-Err-clause-fault
returns-in-Err-clause-fault c =
    reads_refused (lines_of c.args.text.now) c.loop-line.lines c.next.new.self c.in-Some.line.now c.loop-line.number c.loop-line.read c.in-Err.kind
    c.loop-line.invariant c.in-Some.ensures c.in-Err.ensures

pub loop-line-preserved : goal.loop-line-preserved
loop-line-preserved c =
    reads_next (lines_of c.args.text.now) c.loop-line.lines c.next.new.self c.in-Some.line.now c.loop-line.number c.loop-line.read c.read_on.new.self
    c.loop-line.invariant c.in-Some.ensures c.in_default-read_on.ensures
