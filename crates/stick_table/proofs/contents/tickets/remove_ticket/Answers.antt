use Rattle.std.proofs.Common.{◌≡◌, length, ap, arith, rules, not, filter}
use Rattle.std.proofs.lemmas.Fn.{filter_same}
use Rattle.stick_model.specs.State.{same_ticket}
use Rattle.stick_table.proofs.EntryLemmas.{fewer_without}
use Rattle.stick_table.proofs.contents.tickets.remove_ticket.Goals as goal

pub returns-clause-items : goal.returns-clause-items
returns-clause-items c = filter_same _ _ _ (λ x b f' k. search rules) _ _ c.retain.ensures.filtered

pub returns-clause-fewer : goal.returns-clause-fewer
returns-clause-fewer c = λ h.
    let e : c.retain.new.self.items ≡ filter (λ held. not (same_ticket c.args.ticket held.0)) c.args.tickets.now.items = filter_same _ _ _ (λ x b f' k. search rules) _ _ c.retain.ensures.filtered in
    omega (arith, ap length e, fewer_without (same_ticket c.args.ticket) c.args.tickets.now.items h)
