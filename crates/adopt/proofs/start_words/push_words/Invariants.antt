use Rattle.std.proofs.Common.{◌≡◌, ◌++◌, drop}
use Rattle.adopt.specs.StartWords as spec
use Rattle.adopt.proofs.start_words.push_words.Given as goal

-- What was added, and what is left, are the words.
abbrev pub invariant-loop-word : goal.invariant-loop-word
invariant-loop-word l = spec.texts l.all.items ++ spec.texts (drop l.word-index l.words) ≡ spec.texts l.fn.all.items ++ spec.texts l.fn.words
