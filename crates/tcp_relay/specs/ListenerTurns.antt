-- Who is told of clients, and what a worker shows the others.
use Rattle.std.specs.Prelude.{ℕ, Option, None, Some, Bool, ◌==◌, ◌&&◌, ◌||◌, ◌-◌, ◌^◌, not, true, false, if◌then◌else◌}
use Rattle.tcp_relay.specs.Balance.{away, is_waiting, shown}
use Rattle.tcp_relay.specs.declared.standing.Seen.{Seen}
use Rattle.tcp_relay.specs.declared.standing.Stand.{Stand}
use Rattle.tcp_relay.specs.declared.standing.Told.{Told}
use Rattle.tcp_relay.specs.declared.standing.Told.TheVariants.{Itself, Nobody, Waiting, Working}

-- in place of a worker's number, where nobody is told
abbrev pub nobody : ℕ
nobody = 2 ^ 64 - 1

-- who is told, as a worker sees it, by the number of who is and what that shows
abbrev pub told_as : ℕ → ℕ → ℕ → Told
told_as worker told word = if told == nobody then Nobody else (if told == worker then Itself else (if is_waiting word then Waiting else Working))

-- a worker that can accept clients, or not, and that waits for a tick at most, or until something is ready, is told in place of who is: where nobody is, or one that is at work while only a client would wake this one
abbrev pub claims : Told → Bool → Bool → Bool
claims Nobody can_accept is_bounded = can_accept
claims Itself can_accept is_bounded = false
claims Waiting can_accept is_bounded = false
claims Working can_accept is_bounded = can_accept && not is_bounded

-- one that is told has another told in its place: it can accept none, or has more to take than it takes in a turn
abbrev pub gives_on : Told → Bool → Bool → Bool
gives_on Itself can_accept may_have = not can_accept || may_have
gives_on other can_accept may_have = false

-- who is told is held up: a tick before it was at work, and it has begun no wait since
abbrev pub is_held_up : Option Seen → Option Seen → Bool
is_held_up (Some before) (Some now) = before.worker == now.worker && before.waits == now.waits
is_held_up before now = false

-- a worker is left clients where it can accept them and has none to take first
abbrev pub word_of : Stand → Bool → ℕ
word_of stand waits = if stand.can_accept && not stand.may_have then shown stand.held waits else away
