use Rattle.std.proofs.Common.{◌≡◌, ◌++◌, take, map}
use Rattle.adopt.specs.Written.{ascii}
use Rattle.adopt.proofs.written.push_ascii.Given as goal

abbrev pub invariant-loop-byte : goal.invariant-loop-byte
invariant-loop-byte l = l.text.items ≡ l.fn.text.items ++ map ascii (take l.byte-index l.more)
