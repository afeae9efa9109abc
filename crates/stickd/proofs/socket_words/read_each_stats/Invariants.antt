use Rattle.std.proofs.Common.{◌≡◌, length}
use Rattle.stickd.proofs.socket_words.read_each_stats.Given as goal

-- each word so far is a socket
abbrev pub invariant-loop-word : goal.invariant-loop-word
invariant-loop-word l = length l.each.items ≡ l.word-index
