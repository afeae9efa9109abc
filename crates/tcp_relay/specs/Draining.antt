-- A drain: no client is accepted any more, and open connections go on for a while.
use Rattle.std.specs.Prelude.{◌≡◌, ◌≢◌, ◌≤◌, ◌<◌, ℕ, ◌+◌, ◌-◌, ◌^◌, ◌==◌, min, nat_lt, if◌then◌else◌}
use Rattle.tcp_relay.specs.declared.drain.Phase.{Phase}
use Rattle.tcp_relay.specs.declared.drain.Phase.TheVariants.{Closing, Draining, Serving}

-- what a drain's word says at a moment in ms. It is 0 while serving goes on. Any other is one more than the moment from which on open connections are closed
abbrev pub phase_of : ℕ → ℕ → Phase
phase_of word moment = if word == 0 then Serving else (if nat_lt moment (word - 1) then Draining else Closing)

-- the word behind a call that begins a drain until a moment: of several such calls the earliest moment counts
abbrev pub begun_of : ℕ → ℕ → ℕ
begun_of word until = if word == 0 then min (until + 1) (2 ^ 64 - 1) else min word (until + 1)

-- once a drain has begun nothing is served any more, and open connections are closed from its moment on
abbrev pub DrainLaw : Type 0
DrainLaw = (word until moment : ℕ) → (phase_of (begun_of word until) moment ≢ Serving) × (until ≤ moment → phase_of (begun_of word until) moment ≡ Closing)
