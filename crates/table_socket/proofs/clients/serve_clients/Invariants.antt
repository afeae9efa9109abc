use Rattle.std.proofs.Common.{◌≡◌, ℕ, ◌-◌, ◌^◌, min, List, length, sum_by}
use Rattle.table_socket.specs.Clients.{Visits}
use Rattle.table_socket.proofs.clients.serve_clients.Given as goal

-- some clients came in turn, and are counted
abbrev pub invariant-loop : goal.invariant-loop
invariant-loop g l =
    let S = g.S.ClientServer in
    (counts : List ℕ)
    × Visits S.visits (S.state l.fn.service) counts (S.state l.service)
    × (l.served.clients ≡ min (length counts) (2 ^ 64 - 1)) × (l.served.commands ≡ min (sum_by (λ (count : ℕ). count) counts) (2 ^ 64 - 1))
