-- What a report comes to.
use Rattle.std.specs.Prelude.{ℕ, Bool, true, false, List, if◌then◌else◌}
use Rattle.std.specs.List.{list_any}
use Rattle.adopt.specs.declared.written.Adopted.{Adopted}
use Rattle.adopt.specs.declared.fates.FateKind.{FateKind}
use Rattle.adopt.specs.declared.fates.FateKind.TheVariants.{Kept, Rewritten, Moved, Carried, Harmless, Altered, Lost}

-- the kinds of loss that change what is served
abbrev pub changes : FateKind → Bool
changes Kept = false
changes Rewritten = false
changes Moved = false
changes Carried = false
changes Harmless = false
changes Altered = true
changes Lost = true

abbrev pub matters : Adopted → Bool
matters line = changes line.fate.kind

-- 3 where a line's loss changes what is served, else 0
abbrev pub status_of : List Adopted → ℕ
status_of lines = if list_any matters lines then 3 else 0
