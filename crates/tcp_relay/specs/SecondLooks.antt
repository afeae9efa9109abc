-- When a worker looks a second time before it sleeps, once others have run.
use Rattle.std.specs.Prelude.{ℕ, ◌-◌, Bool, true, false, ◌||◌, nat_lt, ◌==◌, if◌then◌else◌}
use Rattle.tcp_relay.specs.declared.second_look.SecondLook.{SecondLook}

-- it looks while looks that bring nothing are left, and else once in so many waits
abbrev pub is_due : SecondLook → Bool
is_due it = nat_lt 0 it.left || (it.skips == 0)

-- one wait less until it looks again
abbrev pub skipped : SecondLook → SecondLook
skipped it = record { left = it.left; skips = it.skips - 1 }

-- a look that brought something allows 16 that bring nothing; after the last of those 255 waits go without one
abbrev pub noted : Bool → SecondLook → SecondLook
noted true it = record { left = 16; skips = 0 }
noted false it = if nat_lt 1 it.left then record { left = it.left - 1; skips = 0 } else record { left = 0; skips = 255 }
