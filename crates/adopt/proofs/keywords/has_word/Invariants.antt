use Rattle.std.proofs.Common.{◌≡◌, length}
use Rattle.std.specs.List.{list_any}
use Rattle.std.specs.Str.{bytes_eq}
use Rattle.adopt.specs.Keywords.{has_keyword}
use Rattle.adopt.proofs.keywords.has_word.Given as goal

-- no keyword so far is the word
abbrev pub invariant-loop-keyword : goal.invariant-loop-keyword
invariant-loop-keyword l = list_any (bytes_eq l.word) l.rest ≡ has_keyword l.word l.keywords

abbrev pub decreases-loop-keyword : goal.decreases-loop-keyword
decreases-loop-keyword l = length l.rest
