-- How a run is asked to end.
use Rattle.std.specs.Prelude.{ℕ, Bool, List, if◌then◌else◌}
use Rattle.std.specs.Str.{bytes_eq}
use Rattle.tcp_watch.specs.declared.program.Shutdown.{Shutdown}
use Rattle.tcp_watch.specs.declared.program.Shutdown.TheVariants.{Begun, Already, NoSuch}

-- a frontend by another name isn't this one's, and none drains twice
abbrev pub shutdown_of : List ℕ → List ℕ → Bool → Shutdown
shutdown_of own named is_draining = if bytes_eq named own then (if is_draining then Already else Begun) else NoSuch
