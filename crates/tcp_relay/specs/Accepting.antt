-- When a worker accepts clients.
use Rattle.std.specs.Prelude.{◌≡◌, ◌≤◌, ℕ, zero, suc, ◌+◌, ◌/◌, ◌%◌, Bool, ◌&&◌, ◌||◌, ◌==◌, not, nat_lt, Option, Some, None, List, [], ◌∷◌, true, false, if◌then◌else◌}
use Rattle.tcp_relay.specs.declared.acceptor.Pause.{Pause}
use Rattle.tcp_relay.specs.declared.acceptor.Pause.TheVariants.{NotAtAll, Tick, UntilReady}
use Rattle.tcp_relay.specs.declared.accept_errors.AcceptFault.{AcceptFault}
use Rattle.tcp_relay.specs.declared.accept_errors.AcceptFault.TheVariants.{Gone, NoneWaits, Short, Unreadable}
use Rattle.tcp_relay.specs.declared.accept_errors.Shortage.{Shortage}
use Rattle.tcp_relay.specs.declared.accept_errors.Shortage.TheVariants.{Descriptors, Memory, Other}

-- a worker can accept a client: it has the number of the next connection and a place for it, and the system isn't short of what that takes
abbrev pub can_accept : Bool → Bool → Bool → Bool
can_accept has_number has_place is_short = has_number && has_place && not is_short

-- how long a worker waits: not at all where it can accept a client and one may wait. While it holds connections or the system is short, it waits a tick at most, and not at all where silent peers are to be looked for. Else it waits until something is ready, or a drain begins
abbrev pub pause_of : Bool → Bool → Bool → Bool → Bool → Pause
pause_of can may_have is_due holds is_short = if can && may_have then NotAtAll else (if holds || is_short then (if is_due then NotAtAll else Tick) else UntilReady)

-- for how many ms a worker sleeps at most. One that holds no connection isn't woken by the clock
abbrev pub sleep_of : Pause → Option ℕ
sleep_of NotAtAll = Some 0
sleep_of Tick = Some 100
sleep_of UntilReady = None

-- ---- errors of accept

abbrev among : ℕ → List ℕ → Bool
among code [] = false
among code (one ∷ more) = code == one || among code more

-- EPERM, EINTR, ENONET, EPROTO, ENOPROTOOPT, EOPNOTSUPP, ENETDOWN, ENETUNREACH, ECONNABORTED, EHOSTDOWN and EHOSTUNREACH are of one client, which is gone (accept(2))
abbrev pub is_of_one_client : ℕ → Bool
is_of_one_client code = among code (1 ∷ 4 ∷ 64 ∷ 71 ∷ 92 ∷ 95 ∷ 100 ∷ 101 ∷ 103 ∷ 112 ∷ 113 ∷ [])

-- what the system is short of, by an error's number (accept(2), socket(2)): EMFILE and ENFILE of descriptors, ENOBUFS and ENOMEM of memory, any other of something else
abbrev pub shortage_of : ℕ → Shortage
shortage_of code = if among code (23 ∷ 24 ∷ []) then Descriptors else (if among code (12 ∷ 105 ∷ []) then Memory else Other)

-- whether it says that the system is short of something
abbrev pub is_shortage : AcceptFault → Bool
is_shortage NoneWaits = false
is_shortage Gone = false
is_shortage Unreadable = false
is_shortage (Short shortage) = true

-- what an error of accept means, by its number: EAGAIN that none waits; none at all that a client came whose address can't be read; any other that the system is short
abbrev pub fault_of : Option ℕ → AcceptFault
fault_of None = Unreadable
fault_of (Some code) = if code == 11 then NoneWaits else (if is_of_one_client code then Gone else Short (shortage_of code))

-- what it means once a drain has begun, or before: a listener that the drain has shut fails like one that the system is short for, and none waits there
abbrev pub heard_as : Bool → AcceptFault → AcceptFault
heard_as true (Short shortage) = NoneWaits
heard_as is_draining fault = fault

-- ---- places

-- how many of so many connections a worker holds at most: as many as the others, or one more of those that can't be shared out evenly
abbrev pub share_of : ℕ → ℕ → ℕ → ℕ
share_of connections workers worker = connections / workers + (if nat_lt worker (connections % workers) then 1 else 0)

-- the greatest share, which is the first worker's
abbrev pub most_of : ℕ → ℕ → ℕ
most_of connections workers = share_of connections workers 0

-- the shares of the first so many workers, together
unfoldable pub shares_of : ℕ → ℕ → ℕ → ℕ
shares_of connections workers zero = 0
shares_of connections workers (suc first) = shares_of connections workers first + share_of connections workers first

-- the shares of all workers come to all connections
abbrev pub SharesLaw : Type 0
SharesLaw = (connections workers : ℕ) → 1 ≤ workers → shares_of connections workers workers ≡ connections
