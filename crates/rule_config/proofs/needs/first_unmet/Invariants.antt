use Rattle.std.proofs.Common.{◌≡◌, drop, not}
use Rattle.std.specs.List.{find}
use Rattle.rule_config.specs.Config.{is_declared}
use Rattle.rule_config.specs.declared.needs.Need.{Need}
use Rattle.rule_config.proofs.needs.first_unmet.Given as goal

-- all so far are declared
abbrev pub invariant-loop-need : goal.invariant-loop-need
invariant-loop-need l = find (λ (need : Need). not (is_declared l.sections need.what)) (drop l.need-index l.needs) ≡ find (λ (need : Need). not (is_declared l.sections need.what)) l.needs
