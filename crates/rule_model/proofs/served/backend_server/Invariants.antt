use Rattle.std.proofs.Common.{◌≡◌, drop}
use Rattle.rule_model.specs.Served.{backend_named}
use Rattle.rule_model.proofs.served.backend_server.Given as goal

-- none so far
abbrev pub invariant-loop-section : goal.invariant-loop-section
invariant-loop-section l = backend_named (drop l.section-index l.sections) l.name ≡ backend_named l.sections l.name
