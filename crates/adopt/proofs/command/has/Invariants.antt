use Rattle.std.proofs.Common.{◌≡◌, drop}
use Rattle.adopt.specs.StartWords as spec
use Rattle.adopt.proofs.command.has.Given as goal

-- Whether the option is among all is whether it is among those that are left.
abbrev pub invariant-loop-option : goal.invariant-loop-option
invariant-loop-option l = spec.has (drop l.option-index l.options) l.flag ≡ spec.has l.options l.flag
