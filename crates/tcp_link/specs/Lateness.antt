-- Which timeout ends a connection.
use Rattle.std.specs.Prelude.{ℕ, Bool, ◌&&◌, not, Option, Some, None, is_some, if◌then◌else◌}
use Rattle.tcp_link.specs.declared.lateness.Lateness.{Lateness}
use Rattle.tcp_link.specs.declared.lateness.Lateness.TheVariants.{Client, Connect, Fin, Server}
use Rattle.tcp_link.specs.declared.timeouts.Timeouts.{Timeouts}
use Rattle.tcp_link.specs.Links.{LinkState, has_ended, is_held_up, is_late}
use Rattle.tcp_link.specs.Silence.{is_silent, limit_at_end}

-- whether the client has been silent for as long as it may, and isn't held up by the server
abbrev pub is_client_late : LinkState → ℕ → Timeouts → Bool
is_client_late link moment timeouts = not (is_held_up link.there.step link.back.step) && is_silent link.client moment (limit_at_end (has_ended link) timeouts.fin timeouts.client)

-- the timeout of a connection that is late. Until the server accepts it is that of a connect. Once one side has ended it is the one for that, where it is said. Else it is the client's where the client is late, and the server's where it alone is
abbrev pub timeout_of : LinkState → ℕ → Timeouts → Lateness
timeout_of link moment timeouts =
    if not link.accepted then Connect
    else if has_ended link && is_some timeouts.fin then Fin
    else if is_client_late link moment timeouts then Client
    else Server

-- which timeout is over, if a peer is late
abbrev pub lateness : LinkState → ℕ → Timeouts → Option Lateness
lateness link moment timeouts = if is_late link moment timeouts then Some (timeout_of link moment timeouts) else None
