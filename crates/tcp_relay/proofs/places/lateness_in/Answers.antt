use Rattle.std.proofs.Common.{◌≡◌, Some}
use Rattle.tcp_relay.proofs.PassedPlaces.{goes_on_there}
use Rattle.tcp_relay.proofs.places.lateness_in.Goals as goal

pub returns-in-Some : goal.returns-in-Some
returns-in-Some g c =
    let there : c.args.slot.now ≡ Some c.in-Some.connection = cc (c.in-Some.is) in
    record { stays = goes_on_there _ _ c.args.slot.now c.in-Some.connection c.lateness.new.self there c.lateness.ensures.conn c.lateness.ensures.open }
