use Rattle.std.proofs.Common.{◌≡◌, ◌++◌, take, drop, option_map}
use Rattle.proxy_header.specs.Line.{first_line}
use Rattle.proxy_header.proofs.line.first_line.Given as goal

-- no CR LF begins before this place
abbrev pub invariant-loop-place : goal.invariant-loop-place
invariant-loop-place l = option_map (λ line. take l.place l.bytes ++ line) (first_line (drop l.place l.bytes)) ≡ first_line l.bytes
