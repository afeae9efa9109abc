use Rattle.std.proofs.Common.{◌≡◌, ◌++◌, take, drop}
use Rattle.base_lines.specs.Parentheses.{before_parenthesis, from_parenthesis}
use Rattle.base_lines.proofs.parentheses.before_parenthesis.Given as goal

abbrev pub invariant-loop-place : goal.invariant-loop-place
invariant-loop-place l = record {
  prefix : before_parenthesis l.text ≡ take l.place l.text ++ before_parenthesis (drop l.place l.text);
  rest : from_parenthesis l.text ≡ from_parenthesis (drop l.place l.text);
}
