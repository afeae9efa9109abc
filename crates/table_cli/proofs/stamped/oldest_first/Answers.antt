use Rattle.std.proofs.Common.{IsPermutation, List, rules, subst}
use Rattle.std.proofs.lemmas.List.Sorted.{answers_always}
use Rattle.table_cli.specs.OldestFirst.{stamp_of}
use Rattle.table_cli.specs.declared.stamped.Stamped.{Stamped}
use Rattle.table_cli.proofs.stamped.oldest_first.Goals as goal

pub returns-in-Ok-sort_by_key-clause-ok : goal.returns-in-Ok-sort_by_key-clause-ok
returns-in-Ok-sort_by_key-clause-ok c = record {
  same = subst (λ (rows : List Stamped). IsPermutation rows c.sort_by_key.new.self.items) c.in-Ok.ensures.ok c.sort_by_key.ensures.permutation;
  rise = c.in-Ok-sort_by_key.ensures.sorted stamp_of (answers_always _ _ _ (λ f a r g h. search rules));
}
