use Rattle.rule_config.proofs.LimitLemmas.{answers_limited}
use Rattle.rule_config.proofs.ReadLemmas.{ends_answers}
use Rattle.rule_config.proofs.config.read_config.Goals as goal

pub returns-clause-answers : goal.returns-clause-answers
returns-clause-answers c = ends_answers c.args.text.now c.in_ok-read.read c.in_ok-read.last c.finish.result c.in_ok-read.ensures.read c.in_ok-read.ensures.last c.finish.ensures

pub returns-clause-limits : goal.returns-clause-limits
returns-clause-limits c = answers_limited c.args.text.now c.finish.result (returns-clause-answers c)
