-- What contracts see of a connection between two sockets.
use Rattle.std.specs.Prelude.{◌≡◌, ◌≢◌, ℕ, ◌-◌, List, length, Bool, true, false, ◌&&◌, ◌||◌, not, nat_lt, Option, Some, None, is_some, if◌then◌else◌}
use Rattle.tcp_flow.specs.Turns.{is_last}
use Rattle.tcp_flow.specs.declared.steps.Step.{Step}
use Rattle.tcp_flow.specs.declared.steps.Step.TheVariants.{Ended, Failed, WaitsToRead, WaitsToWrite, Yields}
use Rattle.tcp_link.specs.declared.end.Side.{Side}
use Rattle.tcp_link.specs.declared.end.Side.TheVariants.{Client, Server}
use Rattle.tcp_link.specs.declared.loss.Loss.{Loss}
use Rattle.tcp_link.specs.declared.timeouts.Timeouts.{Timeouts}
use Rattle.tcp_link.specs.declared.way.Way.{Way}
use Rattle.tcp_link.specs.Closing.{lost_bytes, reader_failed, writer_failed}
use Rattle.tcp_link.specs.Losses.{drops, is_given_up, is_spent, no_loss}
use Rattle.tcp_link.specs.Silence.{heard_last, is_quiet, is_silent, limit_at_end, wrote_last}
use Rattle.tcp_link.specs.Ways.{Advances, has_read, has_written, greeted_way, is_end, unbegun_way}

-- the direction from the client to the server and the one back, when something passed last at the client and at the server, in ms, whether the server is known to have accepted the connection, whether the client, and the server, was told that the other has ended, and whether each is watched for room; when something was written to the client last, and to the server, in ms, if anything was; what was dropped of the bytes that each still sent once the other had failed; how often a server that refuses may still be tried again, and, where the next try is waited for, when it refused, in ms; whether the client is gone that no server has accepted; and how many bytes of ours the server is given before the client's
pub record LinkState : Type 0 where
  pub there : Way
  pub back : Way
  pub client : ℕ
  pub server : ℕ
  pub accepted : Bool
  pub client_told : Bool
  pub server_told : Bool
  pub client_watched : Bool
  pub server_watched : Bool
  pub client_wrote : Option ℕ
  pub server_wrote : Option ℕ
  pub client_loss : Loss
  pub server_loss : Loss
  pub tries : ℕ
  pub refused : Option ℕ
  pub gone : Bool
  pub greeting : ℕ

-- a connection that begins at a moment, whose server is given a greeting first and may be tried again so often
abbrev pub opened : List ℕ → ℕ → ℕ → LinkState
opened greeting moment retries = record {
  there = greeted_way greeting;
  back = unbegun_way;
  client = moment;
  server = moment;
  accepted = false;
  client_told = false;
  server_told = false;
  client_watched = false;
  server_watched = false;
  client_wrote = None;
  server_wrote = None;
  client_loss = no_loss;
  server_loss = no_loss;
  tries = retries;
  refused = None;
  gone = false;
  greeting = length greeting;
}

-- whether its server has refused it, and isn't tried again yet
abbrev pub waits : LinkState → Bool
waits link = is_some link.refused

-- nothing goes on, as a socket failed or memory was short
abbrev pub is_failure : Step → Bool
is_failure WaitsToRead = false
is_failure WaitsToWrite = false
is_failure Yields = false
is_failure Ended = false
is_failure (Failed cause) = true

-- whether a byte or an end has passed to or from the server; its end may have been told to the client before the socket failed
abbrev pub has_passed : LinkState → Bool
has_passed link = nat_lt 0 link.there.direction.passage.written || nat_lt 0 link.back.direction.passage.read || is_end link.back.step || link.client_told

-- whether nothing more comes by a direction that stands there, beside the one the other way: all has come, in order or until its sender failed; or its receiver has failed, and nothing more comes of its sender that would be dropped
abbrev pub is_done : Step → Step → Loss → Bool
is_done step other loss = is_end step || reader_failed step || writer_failed step && (is_spent loss.rest || writer_failed other)

-- whether a side is owed a reset, by the direction to it and the one from it: the other one failed before it told its end, and it has not
abbrev pub owes_reset : Step → Step → Bool
owes_reset to from = reader_failed to && not (reader_failed from)

-- whether nothing more passes: nothing comes by either direction, and none is owed a reset
abbrev pub is_finished : LinkState → Bool
is_finished link = is_done link.there.step link.back.step link.client_loss && is_done link.back.step link.there.step link.server_loss && not (owes_reset link.back.step link.there.step) && not (owes_reset link.there.step link.back.step)

-- whether it is ended though more may pass: bytes were lost for want of memory; a side has sent too much to one that has failed; or the client has failed, and no server has accepted
abbrev pub is_broken : LinkState → Bool
is_broken link = lost_bytes link.there.step || lost_bytes link.back.step || is_given_up link.client_loss || is_given_up link.server_loss || link.gone || reader_failed link.there.step && not (has_passed link)

abbrev pub is_over : LinkState → Bool
is_over link = is_broken link || is_finished link

-- whether a side may be reset now that is owed a reset, as nothing was written to it for a second
abbrev pub is_reset_due : LinkState → ℕ → Bool
is_reset_due link moment = owes_reset link.back.step link.there.step && is_quiet link.client_wrote moment || owes_reset link.there.step link.back.step && is_quiet link.server_wrote moment

-- whether the server must have accepted the connection
abbrev pub must_be_accepted : LinkState → Bool
must_be_accepted link = link.accepted || has_passed link

-- the bytes that came of the client, and those that went to it; none where nothing has passed at the server. A greeting counts as none
abbrev pub bytes : LinkState → ℕ × ℕ
bytes link = if has_passed link then (link.there.direction.passage.read - link.greeting, link.back.direction.passage.written) else (0, 0)

-- whether the server has ended and the client is still to be told so: not where nothing more passes, as closing tells it
abbrev pub owes_client : LinkState → Bool
owes_client link = is_end link.back.step && not (is_over link) && not link.client_told

-- whether the client has ended and the server is still to be told so
abbrev pub owes_server : LinkState → Bool
owes_server link = is_end link.there.step && not (is_over link) && not link.server_told

-- what has passed by now, where no more was told and known than before
abbrev pub untold : LinkState → LinkState → LinkState
untold old new = record new { accepted = old.accepted; client_told = old.client_told; server_told = old.server_told }

-- each is told once that the other has ended: the client at once, and the server once it has accepted the connection, as a connection that isn't made yet would end by it. Until then the end stays owed. Whether the server has accepted is asked only where an end is owed to it, or a socket has failed
pub record HandsOn (fails : Bool) (old new : LinkState) : Type 0 where
  pub client : new.client_told ≡ (old.client_told || owes_client (untold old new))
  pub server : new.server_told ≡ (old.server_told || (owes_server (untold old new) && new.accepted))
  pub asked : fails ≡ false → owes_server (untold old new) ≡ false → new.accepted ≡ old.accepted
  pub known : owes_server (untold old new) ≡ true → must_be_accepted (untold old new) ≡ true → new.accepted ≡ true

-- whether a direction waits for room
abbrev pub waits_for_room : Step → Bool
waits_for_room WaitsToRead = false
waits_for_room WaitsToWrite = true
waits_for_room Yields = false
waits_for_room Ended = false
waits_for_room (Failed cause) = false

-- an end is watched for room where a direction waits for it there; so is the server that an end is owed to, as it has room as soon as it has accepted
pub record IsWatched (link : LinkState) : Type 0 where
  pub there : waits_for_room link.there.step ≡ true → link.server_watched ≡ true
  pub back : waits_for_room link.back.step ≡ true → link.client_watched ≡ true
  pub owed : owes_server link ≡ true → link.server_watched ≡ true

-- whether one side has ended or failed
abbrev pub has_ended : LinkState → Bool
has_ended link = is_last link.there.step || is_last link.back.step

-- whether a side's bytes wait to be read as the other side has no room, while it takes what it is sent: it isn't this side that is silent then
abbrev pub is_held_up : Step → Step → Bool
is_held_up from to = waits_for_room from && not (waits_for_room to)

-- whether a peer has been silent for as long as it may, or longer, at a moment in ms: the server until it accepts, and then each of both that isn't held up by the other. Silence counts from when something passed last. No peer is late while the connection waits
abbrev pub is_late : LinkState → ℕ → Timeouts → Bool
is_late link moment timeouts =
    if waits link
    then false
    else if link.accepted
    then not (is_held_up link.there.step link.back.step) && is_silent link.client moment (limit_at_end (has_ended link) timeouts.fin timeouts.client)
    || not (is_held_up link.back.step link.there.step) && is_silent link.server moment (limit_at_end (has_ended link) timeouts.fin timeouts.server)
    else is_silent link.server moment (Some timeouts.connect)

-- the direction from an end, and the one to it
abbrev pub way_from : Side → LinkState → Way
way_from Client link = link.there
way_from Server link = link.back

abbrev pub way_to : Side → LinkState → Way
way_to Client link = link.back
way_to Server link = link.there

-- a direction that waited for room had a turn, and any other stayed as it was
abbrev pub AdvancesIfItWaited : Way → Way → Type 0
AdvancesIfItWaited old new = (old.step ≡ WaitsToWrite → Advances old new) × (old.step ≢ WaitsToWrite → new ≡ old)

-- an end was heard at this moment where a byte passed there, and else when it was before
pub record IsHeard (moment : ℕ) (old new : LinkState) : Type 0 where
  pub client : new.client ≡ heard_last (has_read old.there new.there || has_written old.back new.back) moment old.client
  pub server : new.server ≡ heard_last (has_written old.there new.there || has_read old.back new.back) moment old.server
  pub client_wrote : new.client_wrote ≡ wrote_last (has_written old.back new.back) moment old.client_wrote
  pub server_wrote : new.server_wrote ≡ wrote_last (has_written old.there new.there) moment old.server_wrote

-- what is known of the server, what each was told, what is watched and what was dropped is as before
abbrev pub KeepsWhatIsKnown : LinkState → LinkState → Type 0
KeepsWhatIsKnown old new = new ≡ record old { there = new.there; back = new.back; client = new.client; server = new.server; client_wrote = new.client_wrote; server_wrote = new.server_wrote }

-- the same, but that the server may be known to have accepted, by the error of a socket that has failed
abbrev pub KeepsButAccepted : Bool → LinkState → LinkState → Type 0
KeepsButAccepted fails old new = KeepsWhatIsKnown (record old { accepted = new.accepted }) new × (old.accepted ≡ true → new.accepted ≡ true) × (fails ≡ false → new.accepted ≡ old.accepted)

-- only what a side still sends to one that has failed is dropped
pub record DropsOnly (old new : LinkState) : Type 0 where
  pub client : drops new.there.step new.back.step ≡ false → new.client_loss ≡ old.client_loss
  pub server : drops new.back.step new.there.step ≡ false → new.server_loss ≡ old.server_loss

-- whether a report tells that the client has failed
abbrev pub client_fails : Side → Bool → Bool
client_fails Client fails = fails
client_fails Server fails = false

-- the client is gone once it has failed, and no server has accepted
abbrev pub IsGone : Side → Bool → LinkState → LinkState → Type 0
IsGone side fails old new = new.gone ≡ (old.gone || (client_fails side fails && not new.accepted))
