use Rattle.std.proofs.Common.{◌∙◌, ap, is_some, Some}
use Rattle.admit_core.specs.Conn.{progress_of}
use Rattle.tcp_relay.specs.Releasing.{held_there, is_open_there}
use Rattle.tcp_relay.proofs.PassedPlaces.{others_set, put_passed, there_put}
use Rattle.tcp_relay.proofs.places.Places.put_open.Goals as goal

pub returns : goal.returns
returns g c =
    let old = c.args.self.now.held.items in
    let new = c.put.new.self.held.items in
    let there = there_put old new c.args.place c.open.result c.requires.free c.put.ensures.held in
    record {
      held = ap (held_there (λ one. one.conn)) there ∙ ap (λ conn. (progress_of conn).held) c.open.ensures.conn;
      opened = ap (is_open_there (λ one. is_some one.link)) there ∙ c.open.ensures.open;
      others = others_set old new c.args.place (Some c.open.result) c.put.ensures.held;
      passed = put_passed _ _ old new c.args.place c.open.result c.args.conn c.put.ensures.held c.open.ensures.conn;
    }
