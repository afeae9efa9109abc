-- How far the start of the workers is.
use Rattle.std.specs.Prelude.{ℕ, Bool, ◌==◌, if◌then◌else◌}
use Rattle.tcp_relay.specs.declared.start_gate.StartPhase.{StartPhase}
use Rattle.tcp_relay.specs.declared.start_gate.StartPhase.TheVariants.{Starting, Over, GivenUp}

-- the word is 0 until the start ends: with 1 where all run, and with 2 where one couldn't be started
abbrev pub phase_of : ℕ → StartPhase
phase_of word = if word == 0 then Starting else if word == 1 then Over else GivenUp

abbrev pub word_of : Bool → ℕ
word_of all_started = if all_started then 1 else 2
