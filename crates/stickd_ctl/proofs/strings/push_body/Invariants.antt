use Rattle.std.proofs.Common.{◌≡◌, ◌++◌, drop}
use Rattle.stickd_ctl.specs.Strings.{string_body}
use Rattle.stickd_ctl.proofs.strings.push_body.Given as goal

-- what was added, and what is left
abbrev pub invariant-loop-place : goal.invariant-loop-place
invariant-loop-place l = l.text.items ++ string_body l.skipped (drop l.place l.bytes) ≡ l.fn.text.items ++ string_body 0 l.bytes
