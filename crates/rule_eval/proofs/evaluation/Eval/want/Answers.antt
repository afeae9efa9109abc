use Rattle.rule_eval.proofs.Ready.{eval_free, eval_names, eval_tracking}
use Rattle.rule_eval.proofs.evaluation.Eval.want.Goals as goal

pub returns-clause-table : goal.returns-clause-table
returns-clause-table c = eval_names c.args.self.now

pub returns-clause-free : goal.returns-clause-free
returns-clause-free c = eval_free c.args.self.now

pub returns-clause-tracks : goal.returns-clause-tracks
returns-clause-tracks c = eval_tracking c.args.self.now
