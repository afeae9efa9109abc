use Rattle.std.proofs.Common.{◌≡◌, ◌≤◌, ◌+◌, ◌-◌, ◌*◌, ℕ, zero, suc, sym, subst, arith, length, vec_capacity, vec_len, slice_index_or}
use Rattle.tcp_relay.specs.Seating.{HaveEach, HaveFew}
use Rattle.tcp_relay.proofs.gathering.gather.Goals as goal

one_more : (all old new : ℕ) → new + 1 ≡ old → old ≤ all → all - old + 1 ≡ all - new
one_more all old new less within = omega (arith, less, within)

some_more : (all old new each : ℕ) → new + 1 ≡ old → old ≤ all → (all - old) * each + each ≡ (all - new) * each
some_more all old new each less within = subst (λ n. (all - old) * each + each ≡ n * each) (one_more all old new less within) (omega (arith))

-- one more worker's references, where the workers that have ended are fewer than all
fewer : (ended left each : ℕ) → ended * each + each ≤ (ended + suc left) * each
fewer ended left each = omega (arith)

room : (all left each len places : ℕ) → 1 ≤ left → left ≤ all → len ≤ (all - left) * each → all * each ≤ places → len + each ≤ places
room all zero each len places some within few much = omega (arith, some)
room all (suc left) each len places some within few much =
    let is : all - suc left + suc left ≡ all = omega (arith, within) in
    let more : (all - suc left) * each + each ≤ all * each = subst (λ n. (all - suc left) * each + each ≤ n * each) is (fewer (all - suc left) left each) in
    omega (arith, few, much, more)

pub end-requires-clause-refs : goal.end-requires-clause-refs
end-requires-clause-refs g c = λ k d below.
    let loop = c.loop-worker in
    let less : vec_len c.pop.new.self + 1 ≡ vec_len loop.workers = c.in-Some.ensures.len in
    let at = loop.invariant.refs k d below in
    room (length c.args.workers.items) (vec_len loop.workers) (g.W.Width.most * 3) (vec_len (slice_index_or loop.refs.items k d)) (vec_capacity (slice_index_or loop.refs.items k d)) (omega (arith, less)) loop.invariant.left at.0 at.1

pub loop-worker-preserved : goal.loop-worker-preserved
loop-worker-preserved g c =
    let loop = c.loop-worker in
    let all = length c.args.workers.items in
    let each = g.W.Width.most * 3 in
    let less : vec_len c.pop.new.self + 1 ≡ vec_len loop.workers = c.in-Some.ensures.len in
    record {
      left = omega (arith, less, loop.invariant.left);
      tables = c.end.ensures.tables;
      seats = subst (λ n. HaveEach n all c.end.new.seats.items) (one_more all (vec_len loop.workers) (vec_len c.pop.new.self) less loop.invariant.left)
          (c.end.ensures.seats (all - vec_len loop.workers) all loop.invariant.seats);
      refs = subst (λ n. HaveFew n (all * each) c.end.new.refs.items) (some_more all (vec_len loop.workers) (vec_len c.pop.new.self) each less loop.invariant.left)
          (c.end.ensures.refs ((all - vec_len loop.workers) * each) (all * each) loop.invariant.refs);
    }
