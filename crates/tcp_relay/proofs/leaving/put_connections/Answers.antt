use Rattle.std.proofs.Common.{ap, map, option_map, ◌≡◌, ◌≤◌, ◌+◌, ◌-◌, ◌*◌, ℕ, sym, subst, ◌∙◌, arith, vec_len}
use Rattle.tcp_relay.specs.Seating.{HaveRoom, held_in}
use Rattle.tcp_relay.specs.Connections.{left_by_all}
use Rattle.tcp_relay.proofs.LeavingLemmas.{left_last, left_none}
use Rattle.tcp_relay.proofs.SeatingLemmas.{few_more}
use Rattle.tcp_relay.proofs.leaving.put_connections.Goals as goal

three_more : (less more : ℕ) → less + 1 ≡ more → more * 3 ≡ less * 3 + 3
three_more less more is = omega (arith, is)

within : (all left less most : ℕ) → less + 1 ≡ left → left ≤ all → most + (all - left) * 3 + 3 ≤ most + (all - less) * 3
within all left less most is few = omega (arith, is, few)

pub loop-place-preserved : goal.loop-place-preserved
loop-place-preserved g c =
    let loop = c.loop-place in
    let less : vec_len c.pop.new.self + 1 ≡ vec_len loop.held = c.in-Some.ensures.len in
    record {
      kept =
          let conns = map (option_map (λ connection. connection.conn)) in
          ap (left_by_all (conns c.pop.new.self.items)) c.put_place.ensures.kept ∙ sym (left_last (option_map (λ connection. connection.conn)) c.pop.new.self.items c.in-Some.place (held_in loop.refs.items))
          ∙ sym (ap (λ places. left_by_all (conns places) (held_in loop.refs.items)) c.in-Some.ensures.items) ∙ loop.invariant.kept;
      few = omega (arith, less, loop.invariant.few);
      tables = c.put_place.ensures.tables ∙ loop.invariant.tables;
      room = c.put_place.ensures.room (vec_len c.pop.new.self * 3) (subst (λ n. HaveRoom n loop.refs.items) (three_more (vec_len c.pop.new.self) (vec_len loop.held) less) loop.invariant.room);
      more = λ most places few.
          few_more (most + (g.W.Width.most - vec_len loop.held) * 3 + 3) (most + (g.W.Width.most - vec_len c.pop.new.self) * 3) places c.put_place.new.refs.items
          (within g.W.Width.most (vec_len loop.held) (vec_len c.pop.new.self) most less loop.invariant.few)
          (c.put_place.ensures.more (most + (g.W.Width.most - vec_len loop.held) * 3) places (loop.invariant.more most places few));
    }

pub returns-clause-more : goal.returns-clause-more
returns-clause-more g c most places few =
    few_more (most + (g.W.Width.most - vec_len c.loop-place.held) * 3) (most + g.W.Width.most * 3) places c.loop-place.refs.items (omega (arith)) (c.loop-place.invariant.more most places few)

pub returns-clause-kept : goal.returns-clause-kept
returns-clause-kept g c = sym (left_none (option_map (λ connection. connection.conn)) c.loop-place.held.items (held_in c.loop-place.refs.items) (omega (arith, c.in_default.ensures.cases.0, c.loop-place.held.ok))) ∙ c.loop-place.invariant.kept
