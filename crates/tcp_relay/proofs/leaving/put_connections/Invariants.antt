use Rattle.std.proofs.Common.{◌≡◌, ◌≤◌, ◌+◌, ◌-◌, ◌*◌, ℕ, length, map, option_map, vec_len}
use Rattle.tcp_relay.specs.Seating.{HaveFew, HaveRoom, held_in}
use Rattle.tcp_relay.specs.Connections.{left_by_all}
use Rattle.tcp_relay.proofs.leaving.put_connections.Given as goal

-- each list has room for what is left, and has at most what is put already
abbrev pub invariant-loop-place : goal.invariant-loop-place
invariant-loop-place g l = record {
  kept : left_by_all (map (option_map (λ connection. connection.conn)) l.held.items) (held_in l.refs.items) ≡ left_by_all (map (option_map (λ connection. connection.conn)) l.fn.held.items) (held_in l.fn.refs.items);
  few : vec_len l.held ≤ g.W.Width.most;
  tables : length l.refs.items ≡ length l.fn.refs.items;
  room : HaveRoom (vec_len l.held * 3) l.refs.items;
  more : (most places : ℕ) → HaveFew most places l.fn.refs.items → HaveFew (most + (g.W.Width.most - vec_len l.held) * 3) places l.refs.items;
}

abbrev pub decreases-loop-place : goal.decreases-loop-place
decreases-loop-place g l = vec_len l.held
