-- How the sockets of a connection are closed.
use Rattle.std.specs.Prelude.{Bool, true, false, ◌&&◌, ◌||◌, not}
use Rattle.tcp_flow.specs.declared.steps.Cause.TheVariants.{Memory, Read, Write}
use Rattle.tcp_flow.specs.declared.steps.Step.{Step}
use Rattle.tcp_flow.specs.declared.steps.Step.TheVariants.{Ended, Failed, WaitsToRead, WaitsToWrite, Yields}
use Rattle.tcp_link.specs.Ways.{is_end}
use Rattle.tcp_link.specs.declared.closing.Closing.{Closing}

-- the socket that is read of has failed, before it told its end
abbrev pub reader_failed : Step → Bool
reader_failed WaitsToRead = false
reader_failed WaitsToWrite = false
reader_failed Yields = false
reader_failed Ended = false
reader_failed (Failed Read) = true
reader_failed (Failed Write) = false
reader_failed (Failed Memory) = false

-- the socket that is written to has failed
abbrev pub writer_failed : Step → Bool
writer_failed WaitsToRead = false
writer_failed WaitsToWrite = false
writer_failed Yields = false
writer_failed Ended = false
writer_failed (Failed Read) = false
writer_failed (Failed Write) = true
writer_failed (Failed Memory) = false

-- bytes were lost, as there was no memory to keep them in
abbrev pub lost_bytes : Step → Bool
lost_bytes WaitsToRead = false
lost_bytes WaitsToWrite = false
lost_bytes Yields = false
lost_bytes Ended = false
lost_bytes (Failed Read) = false
lost_bytes (Failed Write) = false
lost_bytes (Failed Memory) = true

-- what a side was sent isn't whole, by the direction to it and the one from it: the other side failed before it told its end
abbrev pub is_cut : Step → Step → Bool
is_cut to from = reader_failed to || writer_failed from && not (is_end to)

-- a side is reset where what it was sent isn't whole, and both are where bytes were lost; else each is closed in order. So is a client whose server never accepted, as nothing was carried. The directions are the one there and the one back
abbrev pub closing : Step → Step → Bool → Closing
closing there back accepted = record {
  resets_client = accepted && (is_cut back there || lost_bytes there || lost_bytes back);
  resets_server = is_cut there back || lost_bytes there || lost_bytes back;
}
