use Rattle.std.proofs.Common.{◌≡◌, List, sym, ◌∙◌}
use Rattle.stick_model.specs.declared.rows.Ticket.{Ticket}
use Rattle.shard_settling.proofs.TicketLemmas.{same_sorted}
use Rattle.shard_settling.proofs.tickets.are_same.Goals as goal

pub returns : goal.returns
returns c =
    let xs : List Ticket = c.sort.new.tickets.items in
    let ys : List Ticket = c.sort-2.new.tickets.items in
    let left : c.as_slice.result.now ≡ xs = c.as_slice.ensures.value in
    let right : c.as_slice-2.result.now ≡ ys = c.as_slice-2.ensures.value in
    let same = same_sorted c.args.tickets.items c.args.others.items xs ys c.sort.ensures.permutation c.sort.ensures.rise c.sort-2.ensures.permutation c.sort-2.ensures.rise in
    (λ yes. same.1 (sym left ∙ c.are_equal.ensures.0 yes ∙ right), λ is. c.are_equal.ensures.1 (left ∙ same.0 is ∙ sym right))
