use Rattle.std.proofs.Common.{◌≡◌, map, drop}
use Rattle.rule_words.specs.TermNames.{named}
use Rattle.rule_words.proofs.term_names.value_of.Given as goal

-- no row so far has the name
abbrev pub invariant-loop-text : goal.invariant-loop-text
invariant-loop-text g l = named l.name (map (λ row. (row.0.now, row.1)) (drop l.text-index l.rows)) ≡ named l.name (map (λ row. (row.0.now, row.1)) l.rows)
