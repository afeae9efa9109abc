-- The bytes of a connection, and those of them that aren't counted yet.
use Rattle.std.specs.Prelude.{◌-◌, Option, Some, None}
use Rattle.tcp_link.specs.Links.{LinkState, bytes}
use Rattle.tcp_relay.specs.declared.traffic.Traffic.{Traffic}

-- no byte
abbrev pub none : Traffic
none = record { bytes_in = 0; bytes_out = 0 }

-- what there is beyond what was counted before
abbrev pub beyond : Traffic → Traffic → Traffic
beyond all counted = record { bytes_in = all.bytes_in - counted.bytes_in; bytes_out = all.bytes_out - counted.bytes_out }

-- the bytes that have passed through the sockets of a connection
abbrev pub passed : LinkState → Traffic
passed link = record { bytes_in = (bytes link).0; bytes_out = (bytes link).1 }

-- what isn't counted yet of a connection: nothing once it is closed
abbrev pub uncounted : Option LinkState → Traffic → Traffic
uncounted None counted = none
uncounted (Some link) counted = beyond (passed link) counted

-- the same of the one in a place, if one is there
abbrev pub uncounted_in : {X : Type 0} → (X → Option LinkState) → (X → Traffic) → Option X → Traffic
uncounted_in link_of counted_of None = none
uncounted_in link_of counted_of (Some one) = uncounted (link_of one) (counted_of one)

-- what is counted then
abbrev pub counted_then : Option LinkState → Traffic → Traffic
counted_then None counted = counted
counted_then (Some link) counted = passed link
