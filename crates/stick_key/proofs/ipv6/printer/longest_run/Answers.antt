use Rattle.std.proofs.Common.{arith, sym}
use Rattle.stick_key.proofs.Ipv6Runs.{IsLongestRun, first_longest_is, longest_is, zeros_from-within}
use Rattle.stick_key.proofs.ipv6.printer.longest_run.Goals as goal

longest_run : (c : goal.After-loop-place) → IsLongestRun c.args.groups.now c.loop-place.start c.loop-place.length
longest_run c = record {
  reached = c.loop-place.invariant.reached;
  most = λ k inside. c.loop-place.invariant.most k (omega arith) inside;
  first = λ k before. c.loop-place.invariant.first k (omega arith) before;
  inside = c.loop-place.invariant.inside;
}

pub overflow_add-zeros : goal.overflow_add-zeros
overflow_add-zeros c =
    omega (arith, c.loop-place.invariant.here, zeros_from-within c.args.groups.now c.loop-place.place (omega arith))

pub returns-clause-start : goal.returns-clause-start
returns-clause-start c = sym (first_longest_is c.args.groups.now c.loop-place.start c.loop-place.length c.told-groups (longest_run c))

pub returns-clause-length : goal.returns-clause-length
returns-clause-length c = sym (longest_is c.args.groups.now c.loop-place.start c.loop-place.length c.told-groups (longest_run c))

pub returns-clause-within : goal.returns-clause-within
returns-clause-within c =
    omega (arith, c.loop-place.invariant.reached, zeros_from-within c.args.groups.now c.loop-place.start (omega (arith, c.loop-place.invariant.inside)))
