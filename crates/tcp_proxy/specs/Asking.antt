-- What is asked of the program by signals, and by `stop`, while it serves or drains.
use Rattle.std.specs.Prelude.{ℕ, ◌+◌, ◌==◌, nat_lt, Bool, Option, Some, None, if◌then◌else◌}
use Rattle.tcp_proxy.specs.declared.asks.Ask.{Ask}
use Rattle.tcp_proxy.specs.declared.asks.Ask.TheVariants.{Nothing, Drain, Hasten}

-- the first that comes asks to drain; one that comes while the program drains, and two at once, to end what is open now
abbrev pub ask_of : ℕ → ℕ → Bool → Ask
ask_of seen pending is_draining =
    if nat_lt seen pending then (if is_draining then Hasten else if pending == seen + 1 then Drain else Hasten) else Nothing

-- the time that is named; else the program's own, and a second stop without a time ends what is open now
abbrev pub drain_time : Option ℕ → ℕ → Bool → ℕ
drain_time (Some time) own is_draining = time
drain_time None own is_draining = if is_draining then 0 else own
