use Rattle.std.proofs.Common.{rules}
use Rattle.std.proofs.lemmas.List.Sorted.{answers_always}
use Rattle.stick_model.specs.Gathered.{has_lower_key}
use Rattle.stick_model.proofs.ListedLemmas.{key_ranks}
use Rattle.stick_model.proofs.OrderLemmas.{order-is}
use Rattle.stick_model.proofs.listed_rows.sort_packed.Goals as goal

pub returns : goal.returns
returns c =
    order-is has_lower_key key_ranks c.args.rows.now.items c.sort_by.new.self.items
    (c.in_ok-sort_by.ensures.sorted has_lower_key key_ranks (answers_always _ _ _ (λ f a r g h. search rules)))
    (c.in_ok-sort_by.ensures.stable has_lower_key key_ranks (answers_always _ _ _ (λ f a r g h. search rules)))
