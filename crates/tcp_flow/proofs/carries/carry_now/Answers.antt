use Rattle.std.proofs.Common.{[], arith, rules, subst}
use Rattle.tcp_flow.specs.Passage.{HasMoved, Passage, passage}
use Rattle.tcp_flow.proofs.MoveLemmas.{moved_none, moved_twice, none_of_any, one_more}
use Rattle.tcp_flow.proofs.carries.carry_now.Goals as goal

pub loop-read-init : goal.loop-read-init
loop-read-init g c = record {
  moved = moved_none _ _ _ _ _;
  empty = c.requires.empty;
  reader = search rules;
  writer = search rules;
  most = omega arith;
  least = omega arith;
}

pub returns-in-Ok-clause-moved : goal.returns-in-Ok-clause-moved
returns-in-Ok-clause-moved g c = moved_twice _ _ _ _ _ _ _ _ _ _ _ c.loop-read.invariant.moved c.carry_once.ensures.moved

pub returns-in-Err-clause-moved : goal.returns-in-Err-clause-moved
returns-in-Err-clause-moved g c = moved_twice _ _ _ _ _ _ _ _ _ _ _ c.loop-read.invariant.moved c.carry_once.ensures.moved

pub loop-read-preserved : goal.loop-read-preserved
loop-read-preserved g c =
    let R = g.R.ReadySource in
    let W = g.W.ReadySink in
    let now = c.carry_once.new in
    let all = moved_twice _ _ _ _ _ _ _ _ _ _ _ c.loop-read.invariant.moved c.carry_once.ensures.moved in
    record {
      moved = subst (λ (p : Passage). HasMoved R.tells (R.left c.args.reader.now) (R.left now.reader) W.tells (W.written c.args.writer.now) (W.written now.writer) (passage c.args.flow.now []) p)
          (none_of_any now.flow now.buffer [] c.in-Ok.ensures.ok) all;
      empty = c.in-Ok.ensures.ok;
      reader = search rules;
      writer = search rules;
      most = one_more _ _ _ _ _ _ (search rules) c.loop-read.invariant.most c.carry_once.ensures.most;
      least = search rules;
    }
