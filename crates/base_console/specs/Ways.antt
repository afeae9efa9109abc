-- How what a descriptor is open on is written to without a wait.
use Rattle.std.specs.Prelude.{Bool, if◌then◌else◌}
use Rattle.base_console.specs.declared.way.Kind.{Kind}
use Rattle.base_console.specs.declared.way.Kind.TheVariants.{File, Pipe, Socket, Device, Unknown}
use Rattle.base_console.specs.declared.way.Way.{Way}
use Rattle.base_console.specs.declared.way.Way.TheVariants.{AtOnce, Sent, Reopened, Asked}

-- a file takes all at once, a socket is sent to; a pipe or a device is written to by a description of one's own where there is one, and
-- else asked first, as is what nobody knows
abbrev pub way_of : Kind → Bool → Way
way_of File is_reopened = AtOnce
way_of Socket is_reopened = Sent
way_of Pipe is_reopened = if is_reopened then Reopened else Asked
way_of Device is_reopened = if is_reopened then Reopened else Asked
way_of Unknown is_reopened = Asked
