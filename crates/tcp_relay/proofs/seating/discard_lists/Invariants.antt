use Rattle.std.proofs.Common.{◌≡◌, All, vec_len}
use Rattle.tcp_relay.proofs.seating.discard_lists.Given as goal

abbrev pub invariant-loop-list : goal.invariant-loop-list
invariant-loop-list g l = All (λ list. vec_len list ≡ 0) l.lists.items

abbrev pub decreases-loop-list : goal.decreases-loop-list
decreases-loop-list g l = vec_len l.lists
