use Rattle.std.proofs.Common.{rules}
use Rattle.std.specs.Ordering.{is_lt}
use Rattle.std.specs.Cmp.Lexicographic.{nat_list_cmp_total}
use Rattle.std.proofs.lemmas.List.MinMax.{ranks_by}
use Rattle.std.proofs.lemmas.List.Sorted.{answers_always}
use Rattle.stick_model.specs.Key.{Key, key_cmp}
use Rattle.stick_model.specs.declared.rows.Record.{Record}
use Rattle.stick_pooled.specs.Stock.{kept_slots}
use Rattle.stick_pooled.proofs.RowOrderLemmas.{records-sorted}
use Rattle.stick_pooled.proofs.plain_copy.copy_records.Goals as goal

pub returns : goal.returns
returns c =
    let key : Key × Record → Key = λ pair. pair.0 in
    records-sorted c.args.expire (kept_slots c.args.point c.args.store.now) c.in_ok-records.records.items c.sort_unstable_by.new.self.items c.requires.distinct c.in_ok-records.ensures c.sort_unstable_by.ensures.permutation
    (c.sort_unstable_by.ensures.sorted (λ (a b : Key × Record). is_lt (key_cmp a.0 b.0)) (ranks_by nat_list_cmp_total key) (answers_always _ _ _ (λ f a r g h. search rules)))
