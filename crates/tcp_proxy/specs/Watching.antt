-- Who looks at a run while it goes on, and which threads that takes.
use Rattle.std.specs.Prelude.{ℕ, ◌+◌, length, nat_lt, min, max, Bool, ◌||◌, not, is_some, if◌then◌else◌}
use Rattle.tcp_watch.specs.Handed.{has}
use Rattle.tcp_watch.specs.declared.handed.Purpose.TheVariants.{Stats}
use Rattle.tcp_watch.specs.declared.surroundings.Surroundings.{Surroundings}
use Rattle.tcp_proxy.specs.declared.plan.WatchPlan.{WatchPlan}
use Rattle.tcp_proxy.specs.declared.plan.KeepPlan.{KeepPlan}
use Rattle.tcp_proxy.specs.declared.plan.Duties.{Duties}
use Rattle.tcp_proxy.specs.declared.plan.TheConstants.{METRICS_CLIENTS}

-- a stats socket is asked for, or handed over
abbrev pub has_stats : WatchPlan → Surroundings → Bool
has_stats watch manager = is_some watch.stats || has Stats manager.handed

abbrev pub is_watched : WatchPlan → Surroundings → Bool
is_watched watch manager = has_stats watch manager || is_some watch.report || is_some watch.metrics || watch.log_rejected

-- the service manager takes messages
abbrev pub is_manager_told : Surroundings → Bool
is_manager_told manager = is_some manager.notify

-- the stats socket has 1 to 32 places
abbrev pub places_of : ℕ → ℕ
places_of asked = min (max asked 1) 32

-- one stats socket at least brings the further ones, up to four in all
abbrev pub sockets_of : WatchPlan → Surroundings → ℕ
sockets_of watch manager = if has_stats watch manager then 1 + min (length watch.more_stats.now) 3 else 0

-- as many clients as there are places, or more, leave none
abbrev pub are_full : ℕ → ℕ → Bool
are_full taken count = not (nat_lt taken count)

-- without anybody who looks, and a file to save to, those that answer commands are all
abbrev pub duties_of : ℕ → WatchPlan → KeepPlan → Surroundings → Bool → Duties
duties_of clients watch keep manager is_stop_blocked = record {
  commands = clients;
  stats = places_of watch.stats_clients;
  sockets = sockets_of watch manager;
  metrics = if is_some watch.metrics then METRICS_CLIENTS else 0;
  saving = if is_some keep.save then 1 else 0;
  reporting = if is_watched watch manager || is_stop_blocked || is_manager_told manager then 1 else 0;
}
