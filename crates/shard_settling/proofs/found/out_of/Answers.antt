use Rattle.std.proofs.Common.{◌∙◌, ap, map}
use Rattle.stick_model.specs.Key.{Key}
use Rattle.stick_model.specs.State.{State}
use Rattle.stick_model.specs.declared.rows.Ticket.{Ticket}
use Rattle.shard_settling.proofs.found.out_of.Goals as goal

pub returns : goal.returns
returns g c =
    c.from_vec.ensures ∙ c.in_ok-tickets.ensures
    ∙ ap (map (λ (one : Ticket × Key). one.0)) (c.tickets.ensures ∙ ap (λ (state : State). state.tickets) (c.in_ok-table.ensures ∙ c.live.ensures.live))
