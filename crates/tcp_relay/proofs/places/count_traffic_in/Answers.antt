use Rattle.std.proofs.Common.{◌≡◌, Some}
use Rattle.tcp_relay.proofs.PassedPlaces.{goes_on_there}
use Rattle.tcp_relay.proofs.places.count_traffic_in.Goals as goal

pub returns-in-Some-clause-stays : goal.returns-in-Some-clause-stays
returns-in-Some-clause-stays g c =
    let there : c.args.slot.now ≡ Some c.in-Some.connection = cc (c.in-Some.is) in
    goes_on_there _ _ c.args.slot.now c.in-Some.connection c.count_traffic.new.self there c.count_traffic.ensures.conn c.count_traffic.ensures.open
