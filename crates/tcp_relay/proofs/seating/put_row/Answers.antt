use Rattle.std.proofs.Common.{◌≡◌, ◌+◌, ◌≤◌, ◌<◌, ◌∙◌, rules, arith, length, vec_capacity, vec_len}
use Rattle.tcp_relay.proofs.SeatingLemmas.{more_back, within_less}
use Rattle.tcp_relay.proofs.seating.put_row.Goals as goal

pub loop-seated-preserved : goal.loop-seated-preserved
loop-seated-preserved g c =
    let seats = c.loop-seated.seats.items in
    let place = length c.as_slice.result.now in
    let before = vec_len c.loop-seated.row in
    let less = vec_len c.pop.new.self in
    let same : place ≡ less = c.as_slice.ensures.len in
    let one_less : less + 1 ≡ before = c.in-Some.ensures.len in
    let grown = c.push_reserved.new.self in
    record {
      row = search rules;
      tables = search rules;
      room = within_less (λ list. vec_len list + 1 ≤ vec_capacity list) seats place less before grown same one_less c.loop-seated.invariant.room;
      more = λ count places each.
          more_back seats place less before (length c.args.seats.now.items) c.index_mut-list.result.now grown (omega (arith, same, one_less, c.loop-seated.invariant.row, c.loop-seated.invariant.tables)) same one_less c.index_mut-list.ensures.value c.push_reserved.ensures.len c.push_reserved.ensures.capacity count places
          (c.loop-seated.invariant.more count places each);
    }
