use Rattle.rule_words.proofs.LineLemmas.{words-behind}
use Rattle.rule_words.proofs.lines.next_or_empty.Goals as goal

pub returns-in-None-clause-rest : goal.returns-in-None-clause-rest
returns-in-None-clause-rest c = words-behind c.args.words.now c.next.new.self c.next.ensures.rest
