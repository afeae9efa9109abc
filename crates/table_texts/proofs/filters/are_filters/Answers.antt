use Rattle.std.proofs.Common.{◌≡◌, ◌∙◌, nat_lt, true, sym, rules}
use Rattle.table_texts.proofs.FilterLemmas.{one_fewer}
use Rattle.table_texts.proofs.filters.are_filters.Goals as goal

pub loop-word-preserved : goal.loop-word-preserved
loop-word-preserved c =
    let some : nat_lt 0 c.loop-word.left ≡ true = search rules in
    one_fewer c.loop-word.left _ _ _ _ _ _ _ c.in-Some.ensures.word c.in-Some-next.ensures.word c.in-Some-next-2.ensures.word some (sym c.is_filter.ensures ∙ c.if-not-is_filter.false)
    ∙ c.loop-word.invariant
