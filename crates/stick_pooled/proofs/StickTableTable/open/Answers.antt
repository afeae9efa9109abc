use Rattle.std.proofs.Common.{◌≡◌, List, ap, ◌∙◌}
use Rattle.stored_data.specs.declared.stored_set.Column.{Column}
use Rattle.stick_pooled.specs.Stock.{empty}
use Rattle.stick_pooled.proofs.TableLemmas.{new-state, new-table}
use Rattle.stick_pooled.proofs.StatesLemmas.{new-base, new-base-state}
use Rattle.stick_pooled.proofs.StickTableTable.open.Goals as goal

pub invariant_of-result : goal.invariant_of-result
invariant_of-result c =
    let store : c.in_ok-store.store ≡ empty c.args.spec.size c.args.spec.columns = c.in_ok-store.ensures ∙ ap (λ (columns : List Column). empty c.args.spec.size columns) c.in_ok-columns.ensures in
    (new-table c.args.spec c.in_ok-store.store c.in_ok-book.book c.requires store c.in_ok-book.ensures, new-base c.args.spec c.requires c.in_ok-store.store store _ c.new-2.ensures.items)

pub returns : goal.returns
returns c =
    let store : c.in_ok-store.store ≡ empty c.args.spec.size c.args.spec.columns = c.in_ok-store.ensures ∙ ap (λ (columns : List Column). empty c.args.spec.size columns) c.in_ok-columns.ensures in
    record {
      empty = new-state c.args.spec c.in_ok-store.store c.in_ok-book.book store c.in_ok-book.ensures;
      base = new-base-state c.args.spec c.requires c.in_ok-store.store store _ c.new-2.ensures.items;
    }
