-- What is known of the bytes that a peer still sends.
use Rattle.std.specs.Prelude.{Bool, true, false, ◌||◌, if◌then◌else◌}
use Rattle.mio.specs.Event.{is_error, is_priority, is_read_closed}
use Rattle.mio.specs.declared.event.event.Event.{Event}
use Rattle.tcp_link.specs.declared.ahead.Ahead.{Ahead}
use Rattle.tcp_link.specs.declared.ahead.Ahead.TheVariants.{Last, More, UntilEmpty}

-- what the system tells by an event: all is there where the peer has ended, unless the socket has failed or has urgent data
abbrev pub ahead_of : Event → Ahead
ahead_of event = if is_error event || is_priority event then UntilEmpty else if is_read_closed event then Last else More

-- what is known once more is told: neither is forgotten
abbrev pub ahead_with : Ahead → Ahead → Ahead
ahead_with UntilEmpty told = UntilEmpty
ahead_with Last More = Last
ahead_with Last Last = Last
ahead_with Last UntilEmpty = UntilEmpty
ahead_with More told = told

-- whether a read that leaves room is the last
abbrev pub is_last : Ahead → Bool
is_last More = false
is_last Last = true
is_last UntilEmpty = false

-- whether reads stop short, and others follow until one finds nothing
abbrev pub is_until_empty : Ahead → Bool
is_until_empty More = false
is_until_empty Last = false
is_until_empty UntilEmpty = true
