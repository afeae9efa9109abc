use Rattle.std.proofs.Common.{◌≡◌, Some}
use Rattle.tcp_relay.proofs.PassedPlaces.{goes_on_there}
use Rattle.tcp_relay.proofs.places.retry_in.Goals as goal

pub returns-in-Some : goal.returns-in-Some
returns-in-Some g c =
    let there : c.args.slot.now ≡ Some c.in-Some.connection = cc (c.in-Some.is) in
    record { stays = goes_on_there _ _ c.args.slot.now c.in-Some.connection c.retry.new.self there c.retry.ensures.conn c.retry.ensures.open }
