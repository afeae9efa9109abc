use Rattle.std.proofs.Common.{◌≡◌, ◌^◌, ◌-◌, List, length, take, min, sum_by}
use Rattle.stick_model.specs.declared.rows.Ticket.{Ticket}
use Rattle.tcp_proxy.proofs.table_end.count_references.Given as goal

abbrev pub invariant-loop-out : goal.invariant-loop-out
invariant-loop-out l = l.references ≡ min (sum_by (λ (out : List Ticket). length out) (take l.out-index l.tickets)) (2 ^ 64 - 1)
