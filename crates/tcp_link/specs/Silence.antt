-- How long nothing has passed, and how long nothing may.
use Rattle.std.specs.Prelude.{ℕ, ◌-◌, Bool, true, false, nat_le, Option, Some, None, if◌then◌else◌}

-- whether, at this moment in ms, nothing has passed since then for as long as is allowed, or longer; never, where nothing is said
abbrev pub is_silent : ℕ → ℕ → Option ℕ → Bool
is_silent heard moment None = false
is_silent heard moment (Some limit) = nat_le limit (moment - heard)

-- when something passed last: now, where something does
abbrev pub heard_last : Bool → ℕ → ℕ → ℕ
heard_last passes moment heard = if passes then moment else heard

-- how long nothing may pass where one side has ended or failed: so long as is said for that, or as before where nothing is said
abbrev pub limit_at_end : Bool → Option ℕ → Option ℕ → Option ℕ
limit_at_end false fin usual = usual
limit_at_end true None usual = usual
limit_at_end true (Some fin) usual = Some fin

-- when something was written last: now, where something is; never, where nothing was
abbrev pub wrote_last : Bool → ℕ → Option ℕ → Option ℕ
wrote_last writes moment wrote = if writes then Some moment else wrote

-- whether, at this moment in ms, nothing was written for a second
abbrev pub is_quiet : Option ℕ → ℕ → Bool
is_quiet None moment = true
is_quiet (Some wrote) moment = nat_le 1000 (moment - wrote)
