use Rattle.std.proofs.Common.{rules}
use Rattle.std.proofs.lemmas.List.Sorted.{answers_always}
use Rattle.stickd_ctl.specs.declared.saved.Entry.{Entry}
use Rattle.stickd_ctl.proofs.saved.order.Goals as goal

pub returns : goal.returns
returns c =
    let left = answers_always _ _ _ (λ f a r g h. search rules) in
    record {
      same = c.in_ok-sort_by_key.ensures.permutation;
      rise = c.in_ok-sort_by_key.ensures.sorted (λ (entry : Entry). entry.left) left;
      stand = c.in_ok-sort_by_key.ensures.stable (λ (entry : Entry). entry.left) left;
    }
