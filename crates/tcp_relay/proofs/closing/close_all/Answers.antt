use Rattle.std.proofs.Common.{◌∙◌, arith}
use Rattle.tcp_relay.proofs.PassedPlaces.{all_closed, closed_more}
use Rattle.tcp_relay.proofs.closing.close_all.Goals as goal

pub loop-place-preserved : goal.loop-place-preserved
loop-place-preserved g c =
    let loop = c.loop-place in
    record {
      closed = closed_more _ loop.worker.places.held.items c.close.new.worker.places.held.items loop.place c.close.ensures.closed c.close.ensures.others loop.invariant.closed;
      count = c.close.ensures.count ∙ loop.invariant.count;
    }

pub returns : goal.returns
returns g c = record { closed = all_closed _ c.loop-place.worker.places.held.items c.loop-place.place (omega (arith, c.loop-place-test.false, c.loop-place.invariant.count, c.count-place-end.ensures)) c.loop-place.invariant.closed }
