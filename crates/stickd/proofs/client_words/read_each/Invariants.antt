use Rattle.std.proofs.Common.{◌≡◌, Some, length, map, take}
use Rattle.rule_addresses.specs.Addresses.{bind_of}
use Rattle.stickd.proofs.client_words.read_each.Given as goal

-- the words so far are read
abbrev pub invariant-loop-word : goal.invariant-loop-word
invariant-loop-word l = (map (λ bind. Some bind) l.binds.items ≡ map (λ word. bind_of word.now) (take l.word-index l.words)) × (length l.binds.items ≡ l.word-index)
