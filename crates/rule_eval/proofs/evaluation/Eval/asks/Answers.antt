use Rattle.rule_eval.proofs.Ready.{eval_free, eval_left}
use Rattle.rule_eval.proofs.evaluation.Eval.asks.Goals as goal

pub returns-clause-free : goal.returns-clause-free
returns-clause-free c = eval_free c.args.self.now

pub returns-clause-left : goal.returns-clause-left
returns-clause-left c = eval_left c.args.self.now
