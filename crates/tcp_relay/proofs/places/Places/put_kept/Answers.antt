use Rattle.std.proofs.Common.{◌∙◌, ap, is_some, length, Some}
use Rattle.admit_core.specs.Conn.{progress_of}
use Rattle.tcp_relay.specs.Releasing.{held_there, is_open_there}
use Rattle.tcp_relay.proofs.PassedPlaces.{others_set, put_closed, set_count, there_put}
use Rattle.tcp_relay.proofs.places.Places.put_kept.Goals as goal

pub returns : goal.returns
returns g c =
    let old = c.args.self.now.held.items in
    let new = c.put.new.self.held.items in
    let there = there_put old new c.args.place c.kept.result c.requires.free c.put.ensures.held in
    record {
      held = ap (held_there (λ one. one.conn)) there ∙ ap (λ conn. (progress_of conn).held) c.kept.ensures.conn;
      closed = ap (is_open_there (λ one. is_some one.link)) there ∙ c.kept.ensures.closed;
      others = others_set old new c.args.place (Some c.kept.result) c.put.ensures.held;
      count = ap length c.put.ensures.held ∙ set_count old c.args.place (Some c.kept.result);
      none = put_closed _ _ old new c.args.place c.kept.result c.put.ensures.held c.kept.ensures.closed;
    }
