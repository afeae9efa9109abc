use Rattle.std.proofs.Common.{rules, sym, subst}
use Rattle.tcp_flow.specs.Carried.{Carried}
use Rattle.tcp_flow.specs.declared.pumping.PumpEnd.{PumpEnd}
use Rattle.tcp_flow.proofs.CarryLemmas.{carried_more, whole_more}
use Rattle.tcp_flow.proofs.pumping.pump.Goals as goal

pub returns-then-is_err-clause-carried : goal.returns-then-is_err-clause-carried
returns-then-is_err-clause-carried g c =
    let R = g.R.Source in
    let W = g.W.Sink in
    let all = carried_more _ _ _ _ _ _ _ _ _ _ _ _ c.loop-turn.invariant.whole c.in_default.ensures.ok c.drain_all.ensures.bytes in
    subst (λ (e : PumpEnd). Carried R.tells (R.left c.args.reader.now) (R.left c.fill.new.reader) W.tells (W.written c.args.writer.now) (W.written c.drain_all.new.writer) e.read e.written)
    (sym c.end-then-is_err.ensures) all

pub loop-turn-preserved : goal.loop-turn-preserved
loop-turn-preserved g c = record {
  whole = whole_more _ _ _ _ _ _ _ _ _ _ _ _ c.loop-turn.invariant.whole c.in_default.ensures.ok c.drain_all.ensures.bytes (search rules);
  empty = search rules;
  reads = search rules;
  reader = search rules;
  writer = search rules;
}
