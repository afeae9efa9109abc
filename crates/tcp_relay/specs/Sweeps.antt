-- When a worker looks for silent peers.
use Rattle.std.specs.Prelude.{◌≡◌, ◌≤◌, ◌⊎◌, ℕ, ◌+◌, ◌-◌, Bool, false, ◌||◌, not, nat_le, nat_lt, min, Option, Some, None, List, [], ◌∷◌, ◌++◌, length, if◌then◌else◌}
use Rattle.tcp_relay.specs.declared.sweep.Due.{Due}
use Rattle.tcp_relay.specs.declared.sweep.Sweep.{Sweep}

-- how much of the time between two polls counts as silence, in ms: all of it; or a tick of what was so long that the worker was held up, by a signal, a lock or the machine
abbrev pub counts : ℕ → ℕ → ℕ
counts polled moment = if nat_lt 500 (moment - polled) then 100 else moment - polled

-- what the clock of silence shows behind a poll: so much more, and never more than the worker's own clock
abbrev pub counted_behind : Sweep → ℕ → ℕ
counted_behind sweep moment = min moment (sweep.counted + counts sweep.polled moment)

-- what it shows at a moment between two polls
abbrev pub shown_at : Sweep → ℕ → ℕ
shown_at sweep moment = min moment (sweep.counted + (moment - sweep.polled))

-- all that was ready at a moment has been told, where the poll behind it had room for more, or as many were made as all sockets fill
abbrev pub is_told : Due → Bool → Bool
is_told due is_full = not is_full || nat_le due.polls 1

-- the moment that is due, once all that was ready then has been told
abbrev pub told_of : Option Due → Bool → Option ℕ
told_of None is_full = None
told_of (Some due) is_full = if is_told due is_full then Some due.as_of else None

-- what is still due behind a poll: until all has been told, one poll less
abbrev pub left_of : Option Due → Bool → Option Due
left_of None is_full = None
left_of (Some due) is_full = if is_told due is_full then None else Some (record { as_of = due.as_of; polls = due.polls - 1 })

-- when silent peers were last looked for: now, as of that moment, or before
abbrev pub swept_at : Option ℕ → ℕ → ℕ
swept_at None swept = swept
swept_at (Some as_of) swept = as_of

-- what is due next: what still is, or, once a tick has passed since the last look, the moment of this poll; all by the clock of silence
abbrev pub due_next : Option Due → ℕ → ℕ → ℕ → Option Due
due_next (Some due) swept moment polls = Some due
due_next None swept moment polls = if nat_le 100 (moment - swept) then Some (record { as_of = moment; polls = polls }) else None

-- the same behind a poll
abbrev pub due_behind : Sweep → ℕ → Bool → ℕ → Option Due
due_behind sweep moment is_full polls = due_next (left_of sweep.due is_full) (swept_at (told_of sweep.due is_full) sweep.swept) (counted_behind sweep moment) polls

-- ---- what a look rests on

-- a poll: when it returned, whether it was full, and how many full polls all sockets filled then
pub record Poll : Type 0 where
  pub moment : ℕ
  pub is_full : Bool
  pub all : ℕ

-- a worker that begins at a moment, and what it knows behind a poll
abbrev pub begun : ℕ → Sweep
begun start = record { polled = start; counted = start; swept = start; due = None }

abbrev pub behind : Sweep → Poll → Sweep
behind sweep poll = record { polled = poll.moment; counted = counted_behind sweep poll.moment; swept = swept_at (told_of sweep.due poll.is_full) sweep.swept; due = due_behind sweep poll.moment poll.is_full poll.all }

-- what it knows behind all its polls, of which the last stands first
unfoldable pub behind_all : ℕ → List Poll → Sweep
behind_all start [] = begun start
behind_all start (poll ∷ polls) = behind (behind_all start polls) poll

-- the clock of silence showed that moment behind an earlier poll; so many were made since, or fewer than all sockets filled then by at most so many
pub record WasPolled (start : ℕ) (polls : List Poll) (as_of missing : ℕ) : Type 0 where
  pub later : List Poll
  pub one : Poll
  pub earlier : List Poll
  pub order : polls ≡ later ++ one ∷ earlier
  pub moment : (behind_all start (one ∷ earlier)).counted ≡ as_of
  pub enough : one.all ≤ length later + missing

-- silent peers are looked for as of the moment of an earlier poll only, once this one has room for more, or, with this one, as many were made since as all sockets filled then
abbrev pub LookLaw : Type 0
LookLaw = (start : ℕ) (polls : List Poll) (poll : Poll) (as_of : ℕ) → told_of (behind_all start polls).due poll.is_full ≡ Some as_of
    → (missing : ℕ) × WasPolled start polls as_of missing × ((poll.is_full ≡ false) ⊎ (missing ≤ 1))

-- between two polls the clock of silence goes on: by a tick at least where that much has passed, however long the worker was held up, by half a second at most, and never ahead of the worker's own clock
pub record GoesOn (sweep : Sweep) (moment : ℕ) : Type 0 where
  pub least : sweep.counted + min 100 (moment - sweep.polled) ≤ counted_behind sweep moment
  pub most : counted_behind sweep moment ≤ sweep.counted + 500
  pub behind : counted_behind sweep moment ≤ moment

abbrev pub SilenceLaw : Type 0
SilenceLaw = (sweep : Sweep) (moment : ℕ) → sweep.counted ≤ sweep.polled → sweep.polled ≤ moment → GoesOn sweep moment
