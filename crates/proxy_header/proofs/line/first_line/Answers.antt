use Rattle.std.proofs.Common.{sym, ◌∙◌}
use Rattle.proxy_header.proofs.LineLemmas.{first_line-more, first_line-found}
use Rattle.proxy_header.proofs.line.first_line.Goals as goal

pub returns-then-starts_with-clause-line : goal.returns-then-starts_with-clause-line
returns-then-starts_with-clause-line c =
    sym (first_line-found c.args.bytes.now c.loop-place.place c.loop-place-test.true (sym c.starts_with.ensures.value ∙ c.if-starts_with.true)) ∙ c.loop-place.invariant

pub loop-place-preserved : goal.loop-place-preserved
loop-place-preserved c =
    first_line-more c.args.bytes.now c.loop-place.place c.loop-place-test.true (sym c.starts_with.ensures.value ∙ c.if-starts_with.false) ∙ c.loop-place.invariant
