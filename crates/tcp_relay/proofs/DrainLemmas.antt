-- What a drain keeps.
use Rattle.std.proofs.Common.{◌≡◌, ◌≢◌, arith, ℕ, ◌+◌, ◌-◌, ◌≤◌, ◌^◌, ◌==◌, min, nat_lt, if◌then◌else◌}
use Rattle.tcp_relay.specs.Draining.{DrainLaw, begun_of, phase_of}
use Rattle.tcp_relay.specs.declared.drain.Phase.{Phase}
use Rattle.tcp_relay.specs.declared.drain.Phase.TheVariants.{Closing, Draining, Serving}

never_serving : (word until moment : ℕ) → phase_of (begun_of word until) moment ≢ Serving
never_serving word until moment = λ is. grind (arith, is)

closes : (word until moment : ℕ) → until ≤ moment → phase_of (begun_of word until) moment ≡ Closing
closes word until moment passed = grind (arith, passed)

pub drains_end : DrainLaw
drains_end word until moment = (never_serving word until moment, closes word until moment)
