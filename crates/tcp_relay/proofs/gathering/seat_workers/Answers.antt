use Rattle.std.proofs.Common.{◌≡◌, ◌≤◌, ◌+◌, Some, IfSome, arith, sym, subst, rules, length, vec_capacity, vec_len}
use Rattle.std.proofs.lemmas.List.Elements.{All-pop}
use Rattle.tcp_relay.specs.Seating.{Has, HaveEach}
use Rattle.tcp_relay.proofs.PassedPlaces.{none_passed}
use Rattle.tcp_relay.proofs.SeatingLemmas.{row_in, row_stores}
use Rattle.tcp_relay.proofs.gathering.seat_workers.Goals as goal

-- a row and places for connections, as their lists have them
pub take_row-row-requires-clause-empty : goal.take_row-row-requires-clause-empty
take_row-row-requires-clause-empty g c =
    let is : c.pop-in-Some.result ≡ Some c.in-Some-pop.row = cc (c.in-Some-pop.is) in
    (subst (λ r. IfSome r (Has 0 g.W.Width.tables)) is (All-pop (Has 0 g.W.Width.tables) c.loop-places.rows.items c.pop-in-Some.new.self.items c.pop-in-Some.result c.pop-in-Some.ensures.items c.loop-places.invariant.empty_rows).1).0

pub take_row-row-requires-clause-room : goal.take_row-row-requires-clause-room
take_row-row-requires-clause-room g c =
    let is : c.pop-in-Some.result ≡ Some c.in-Some-pop.row = cc (c.in-Some-pop.is) in
    let has = (subst (λ r. IfSome r (Has 0 g.W.Width.tables)) is (All-pop (Has 0 g.W.Width.tables) c.loop-places.rows.items c.pop-in-Some.new.self.items c.pop-in-Some.result c.pop-in-Some.ensures.items c.loop-places.invariant.empty_rows).1).1 in
    omega (arith, has, c.loop-places.invariant.tables)

pub new-places-requires-clause-empty : goal.new-places-requires-clause-empty
new-places-requires-clause-empty g c =
    let is : c.pop.result ≡ Some c.in-Some.places = cc (c.in-Some.is) in
    (subst (λ r. IfSome r (Has 0 g.W.Width.most)) is (All-pop (Has 0 g.W.Width.most) c.loop-places.held.items c.pop.new.self.items c.pop.result c.pop.ensures.items c.loop-places.invariant.empty_connections).1).0

pub new-places-requires-clause-room : goal.new-places-requires-clause-room
new-places-requires-clause-room g c =
    let is : c.pop.result ≡ Some c.in-Some.places = cc (c.in-Some.is) in
    (subst (λ r. IfSome r (Has 0 g.W.Width.most)) is (All-pop (Has 0 g.W.Width.most) c.loop-places.held.items c.pop.new.self.items c.pop.result c.pop.ensures.items c.loop-places.invariant.empty_connections).1).1

pub new-requires-clause-shards : goal.new-requires-clause-shards
new-requires-clause-shards g c = row_in g.W.Width.shards c.args.tables.now c.take_row-row.result.items c.take_row-row.ensures.row c.requires.shards

pub new-requires-clause-current : goal.new-requires-clause-current
new-requires-clause-current g c = row_stores g.W.Width.current c.args.tables.now c.take_row-row.result.items c.take_row-row.ensures.row c.requires.current

pub new-requires-clause-passed : goal.new-requires-clause-passed
new-requires-clause-passed g c =
    none_passed _ _ g.W.Width.setup c.take_row-row.result.items c.new-places.result.held.items (omega (arith, c.new-places.ensures.none, c.new-places.result.held.ok))

pub loop-places-preserved : goal.loop-places-preserved
loop-places-preserved g c =
    let loop = c.loop-places in
    let less : vec_len c.pop.new.self + 1 ≡ vec_len loop.held = c.in-Some.ensures.len in
    record {
      rows = search rules;
      free = search rules;
      all_buffers = search rules;
      seated = search rules;
      room = search rules;
      tables = search rules;
      seats = c.take_row-row.ensures.fewer (vec_len c.pop.new.self) (length c.args.rooms.rows.items) (subst (λ n. HaveEach n (length c.args.rooms.rows.items) loop.seats.items) (sym less) loop.invariant.seats);
      empty_rows = (All-pop (Has 0 g.W.Width.tables) loop.rows.items c.pop-in-Some.new.self.items c.pop-in-Some.result c.pop-in-Some.ensures.items loop.invariant.empty_rows).0;
      empty_connections = (All-pop (Has 0 g.W.Width.most) loop.held.items c.pop.new.self.items c.pop.result c.pop.ensures.items loop.invariant.empty_connections).0;
    }
