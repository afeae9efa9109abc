-- How much a connection has left to do: each answer, each refusal but that of a release, and each turn makes it less.
use Rattle.std.specs.Prelude.{ℕ, ◌+◌, ◌-◌, Bool, true, false, Option, Some, None, length}
use Rattle.admit_core.specs.Connection.{Progress}
use Rattle.admit_core.specs.Held.{holding}
use Rattle.admit_core.specs.declared.need.Need.{Need}
use Rattle.admit_core.specs.declared.need.Need.TheVariants.{Rest, Finished}
use Rattle.admit_core.specs.declared.need.Phase.{Phase}
use Rattle.admit_core.specs.declared.need.Phase.TheVariants.{New, Judging, Admitted, Rejected, Ended}

-- whether it waits for nothing but to be closed, or for nothing at all
abbrev pub is_still : Need → Bool
is_still Rest = true
is_still Finished = true
is_still wanted = false

-- whether it waits to be closed
abbrev pub is_rest : Need → Bool
is_rest Rest = true
is_rest wanted = false

-- closing counts two acts a slot, gives back a reference a slot, and turns once
abbrev pub closing_left : {R : Type 0} → Option (ℕ × ℕ) → Progress R → ℕ
closing_left None progress = 15
closing_left (Some bytes) progress = 1 + (6 - progress.counted) + length (holding progress.held)

-- before that its rules may ask so much, and then at most three sessions are counted
abbrev pub phase_left : {R : Type 0} → Phase → ℕ → Progress R → ℕ
phase_left New rules progress = 20 + rules + (3 - progress.counted)
phase_left Judging rules progress = 20 + rules + (3 - progress.counted)
phase_left Admitted rules progress = closing_left progress.bytes progress
phase_left Rejected rules progress = 1 + length (holding progress.held)
phase_left Ended rules progress = 0

abbrev pub left_of : {R : Type 0} → ℕ → Progress R → ℕ
left_of rules progress = phase_left progress.phase rules progress
