use Rattle.std.proofs.Common.{◌≡◌, drop}
use Rattle.rule_model.specs.Served.{proxy_of}
use Rattle.stickd_input.proofs.first_frontend.Given as goal

-- none so far
abbrev pub invariant-loop-section : goal.invariant-loop-section
invariant-loop-section l = proxy_of (drop l.section-index l.sections) ≡ proxy_of l.sections
