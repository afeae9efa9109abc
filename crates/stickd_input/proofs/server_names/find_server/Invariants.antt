use Rattle.std.proofs.Common.{◌≡◌, false, length}
use Rattle.rule_words.specs.Lines.{lines_of}
use Rattle.stickd_input.specs.Servers.{server_in}
use Rattle.stickd_input.proofs.server_names.find_server.Given as goal

-- no line so far is the section's
abbrev pub invariant-loop-line : goal.invariant-loop-line
invariant-loop-line l = server_in l.section l.is_inside l.lines ≡ server_in l.section false (lines_of l.text)

abbrev pub decreases-loop-line : goal.decreases-loop-line
decreases-loop-line l = length l.lines
