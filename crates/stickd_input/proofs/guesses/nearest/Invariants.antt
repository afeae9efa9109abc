use Rattle.std.proofs.Common.{◌≡◌, None, map, drop, option_map}
use Rattle.stickd_input.specs.Nearest.{nearest_alike}
use Rattle.stickd_input.proofs.guesses.nearest.Given as goal

-- the nearest so far, and of the words that are left, is the nearest of all
abbrev pub invariant-loop-other : goal.invariant-loop-other
invariant-loop-other l = nearest_alike l.word (option_map (λ near. (near.distance, near.word.now)) l.best) (map (λ other. other.now) (drop l.other-index l.words)) ≡ nearest_alike l.word None (map (λ other. other.now) l.words)
