use Rattle.std.proofs.Common.{◌≡◌, ◌++◌, drop, flat_map}
use Rattle.adopt.specs.StartWords as spec
use Rattle.adopt.proofs.start_words.push_options.Given as goal

-- What was added, and what is left, are the words of all options.
abbrev pub invariant-loop-option : goal.invariant-loop-option
invariant-loop-option l =
    spec.texts l.all.items ++ flat_map (spec.words_for l.words) (drop l.option-index l.options) ≡ spec.texts l.fn.all.items ++ flat_map (spec.words_for l.fn.words) l.fn.options
