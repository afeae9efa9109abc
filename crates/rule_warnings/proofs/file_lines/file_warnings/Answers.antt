use Rattle.std.proofs.Common.{rules, ◌≡◌, ◌∙◌, sym, drop, ◌+◌}
use Rattle.rule_words.specs.Lines.{lines_of}
use Rattle.rule_warnings.proofs.FileLemmas.{behind_one, told_next}
use Rattle.rule_warnings.proofs.file_lines.file_warnings.Goals as goal

pub loop-line-preserved : goal.loop-line-preserved
loop-line-preserved c =
    let left : c.next.new.self ≡ drop (c.loop-line.others + 1) (lines_of c.args.text.now) =
    behind_one (lines_of c.args.text.now) c.loop-line.lines c.next.new.self c.in-Some.line.now c.loop-line.others c.in-Some.ensures c.loop-line.invariant.left in
    record {
      all = told_next (lines_of c.args.text.now) c.loop-line.all c.in_ok-all.all c.loop-line.heading.now c.heading_behind-heading.result.now
          c.in-Some.line.now c.loop-line.served c.served_behind-served.result c.loop-line.others c.loop-line.lines c.next.new.self
          c.lines_behind-behind.result c.line_warning-warning.result
          c.in-Some.ensures c.loop-line.invariant.all (c.lines_behind-behind.ensures ∙ sym left) c.line_warning-warning.ensures
          c.in_ok-all.ensures (search rules) (search rules);
      left = left;
      count = search rules;
    }
