use Rattle.std.proofs.Common.{◌≡◌, length}
use Rattle.base_lines.specs.Words.{words_left}
use Rattle.tcp_stats.specs.Messages.{begin_with as specified, line_words}
use Rattle.tcp_stats.proofs.messages.begin_with.Given as goal

-- the words so far are alike
abbrev pub invariant-loop-word : goal.invariant-loop-word
invariant-loop-word l = specified (words_left l.own) (words_left l.words) ≡ specified (line_words l.line) (line_words l.asked)

abbrev pub decreases-loop-word : goal.decreases-loop-word
decreases-loop-word l = length (words_left l.words)
