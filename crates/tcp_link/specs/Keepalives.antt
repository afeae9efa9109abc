-- When a silent peer is asked whether it is still there, and how long bytes may stay unacknowledged.
use Rattle.std.specs.Prelude.{ℕ, max, min}
use Rattle.std.specs.Int.{div_ceil}
use Rattle.tcp_link.specs.declared.keepalive.Keepalive.{Keepalive}
use Rattle.tcp_link.specs.declared.liveness.UserTimeout.{UserTimeout}

-- a time in ms, in whole seconds, rounded up, from 1 to 32,767
abbrev pub seconds : ℕ → ℕ
seconds time = max 1 (min (div_ceil time 1000) 32767)

-- a peer that has been silent for so long, in ms, is asked three times within as long again
abbrev pub keepalive : ℕ → Keepalive
keepalive time = record {
  idle = seconds time;
  interval = div_ceil (seconds time) 3;
  probes = 3;
}

-- bytes may stay unacknowledged for so long, in ms, from 1 to 2^31 - 1
abbrev pub user_timeout : ℕ → UserTimeout
user_timeout time = record { time = max 1 (min time 2147483647) }
