use Rattle.std.proofs.Common.{◌≡◌, ◌∙◌, ap, refl, sym, is_some, slice_get, slice_set, None, Some}
use Rattle.admit_core.specs.Conn.{progress_of}
use Rattle.tcp_relay.specs.Releasing.{held_there, is_open_there}
use Rattle.tcp_relay.proofs.PassedPlaces.{get_there, others_set, put_closed, take_none, there_put}
use Rattle.tcp_relay.proofs.PassedTold.{get_set_same}
use Rattle.tcp_relay.proofs.places.Places.take.Goals as goal

pub put-requires : goal.put-requires
put-requires g c =
    let old = c.args.self.now.held.items in
    let left : c.take.new.self ≡ None = cc (c.take.ensures.after) in
    let slot : slice_get old c.args.place ≡ Some c.in_ok-slot.slot.now = get_there old c.args.place c.in_ok-slot.slot.now c.in_ok-slot.ensures.item.3.0 c.in_ok-slot.ensures.value in
    let free : slice_get (slice_set old c.args.place c.take.new.self) c.args.place ≡ Some None = get_set_same old c.args.place c.take.new.self c.in_ok-slot.slot.now slot ∙ ap Some left in
    record { free = free }

pub returns-in-Ok-clause-free : goal.returns-in-Ok-clause-free
returns-in-Ok-clause-free g c =
    let old = c.args.self.now.held.items in
    let left : c.take.new.self ≡ None = cc (c.take.ensures.after) in
    let slot : slice_get old c.args.place ≡ Some c.in_ok-slot.slot.now = get_there old c.args.place c.in_ok-slot.slot.now c.in_ok-slot.ensures.item.3.0 c.in_ok-slot.ensures.value in
    let free : slice_get (slice_set old c.args.place c.take.new.self) c.args.place ≡ Some None = get_set_same old c.args.place c.take.new.self c.in_ok-slot.slot.now slot ∙ ap Some left in
    free

pub returns-in-Ok-clause-taken : goal.returns-in-Ok-clause-taken
returns-in-Ok-clause-taken g c =
    let old = c.args.self.now.held.items in
    let left : c.take.new.self ≡ None = cc (c.take.ensures.after) in
    let slot : slice_get old c.args.place ≡ Some c.in_ok-slot.slot.now = get_there old c.args.place c.in_ok-slot.slot.now c.in_ok-slot.ensures.item.3.0 c.in_ok-slot.ensures.value in
    let at : slice_get old c.args.place ≡ Some (Some c.in_ok-connection.connection) = slot ∙ ap Some (sym c.take.ensures.value ∙ c.in_ok-connection.was) in
    ap (held_there (λ one. one.conn)) at ∙ ap (λ conn. (progress_of conn).held) (sym c.in-Ok.ensures.conn)

pub returns-in-Ok-clause-was_open : goal.returns-in-Ok-clause-was_open
returns-in-Ok-clause-was_open g c =
    let old = c.args.self.now.held.items in
    let left : c.take.new.self ≡ None = cc (c.take.ensures.after) in
    let slot : slice_get old c.args.place ≡ Some c.in_ok-slot.slot.now = get_there old c.args.place c.in_ok-slot.slot.now c.in_ok-slot.ensures.item.3.0 c.in_ok-slot.ensures.value in
    let at : slice_get old c.args.place ≡ Some (Some c.in_ok-connection.connection) = slot ∙ ap Some (sym c.take.ensures.value ∙ c.in_ok-connection.was) in
    sym (ap (is_open_there (λ one. is_some one.link)) at ∙ c.in-Ok.ensures.open)

pub returns-in-Ok-clause-closed : goal.returns-in-Ok-clause-closed
returns-in-Ok-clause-closed g c =
    let old = c.args.self.now.held.items in
    let left : c.take.new.self ≡ None = cc (c.take.ensures.after) in
    let slot : slice_get old c.args.place ≡ Some c.in_ok-slot.slot.now = get_there old c.args.place c.in_ok-slot.slot.now c.in_ok-slot.ensures.item.3.0 c.in_ok-slot.ensures.value in
    let free : slice_get (slice_set old c.args.place c.take.new.self) c.args.place ≡ Some None = get_set_same old c.args.place c.take.new.self c.in_ok-slot.slot.now slot ∙ ap Some left in
    ap (is_open_there (λ one. is_some one.link)) free

pub returns-in-Ok-clause-others : goal.returns-in-Ok-clause-others
returns-in-Ok-clause-others g c other apart =
    others_set c.args.self.now.held.items (slice_set c.args.self.now.held.items c.args.place c.take.new.self) c.args.place c.take.new.self refl other apart

pub returns-in-Ok-clause-none : goal.returns-in-Ok-clause-none
returns-in-Ok-clause-none g c =
    let left : c.take.new.self ≡ None = cc (c.take.ensures.after) in
    take_none _ _ c.args.self.now.held.items c.args.place c.take.new.self left

pub returns-in-Err-clause-kept : goal.returns-in-Err-clause-kept
returns-in-Err-clause-kept g c =
    let old = c.args.self.now.held.items in
    let left : c.take.new.self ≡ None = cc (c.take.ensures.after) in
    let slot : slice_get old c.args.place ≡ Some c.in_ok-slot.slot.now = get_there old c.args.place c.in_ok-slot.slot.now c.in_ok-slot.ensures.item.3.0 c.in_ok-slot.ensures.value in
    let at : slice_get old c.args.place ≡ Some (Some c.in_ok-connection.connection) = slot ∙ ap Some (sym c.take.ensures.value ∙ c.in_ok-connection.was) in
    let free : slice_get (slice_set old c.args.place c.take.new.self) c.args.place ≡ Some None = get_set_same old c.args.place c.take.new.self c.in_ok-slot.slot.now slot ∙ ap Some left in
    let there : slice_get c.put.new.self.held.items c.args.place ≡ Some (Some c.in-Err.kept) = there_put (slice_set old c.args.place c.take.new.self) c.put.new.self.held.items c.args.place c.in-Err.kept free c.put.ensures.held in
    ap (held_there (λ one. one.conn)) there ∙ ap (λ conn. (progress_of conn).held) c.in-Err.ensures.kept ∙ sym (ap (held_there (λ one. one.conn)) at)

pub returns-in-Err-clause-was_open : goal.returns-in-Err-clause-was_open
returns-in-Err-clause-was_open g c =
    let old = c.args.self.now.held.items in
    let left : c.take.new.self ≡ None = cc (c.take.ensures.after) in
    let slot : slice_get old c.args.place ≡ Some c.in_ok-slot.slot.now = get_there old c.args.place c.in_ok-slot.slot.now c.in_ok-slot.ensures.item.3.0 c.in_ok-slot.ensures.value in
    let at : slice_get old c.args.place ≡ Some (Some c.in_ok-connection.connection) = slot ∙ ap Some (sym c.take.ensures.value ∙ c.in_ok-connection.was) in
    sym (ap (is_open_there (λ one. is_some one.link)) at ∙ c.in-Err.ensures.was_closed)

pub returns-in-Err-clause-closed : goal.returns-in-Err-clause-closed
returns-in-Err-clause-closed g c =
    let old = c.args.self.now.held.items in
    let left : c.take.new.self ≡ None = cc (c.take.ensures.after) in
    let slot : slice_get old c.args.place ≡ Some c.in_ok-slot.slot.now = get_there old c.args.place c.in_ok-slot.slot.now c.in_ok-slot.ensures.item.3.0 c.in_ok-slot.ensures.value in
    let free : slice_get (slice_set old c.args.place c.take.new.self) c.args.place ≡ Some None = get_set_same old c.args.place c.take.new.self c.in_ok-slot.slot.now slot ∙ ap Some left in
    let there : slice_get c.put.new.self.held.items c.args.place ≡ Some (Some c.in-Err.kept) = there_put (slice_set old c.args.place c.take.new.self) c.put.new.self.held.items c.args.place c.in-Err.kept free c.put.ensures.held in
    ap (is_open_there (λ one. is_some one.link)) there ∙ c.in-Err.ensures.closed

pub returns-in-Err-clause-others : goal.returns-in-Err-clause-others
returns-in-Err-clause-others g c other apart =
    let old = c.args.self.now.held.items in
    let between = slice_set old c.args.place c.take.new.self in
    others_set between c.put.new.self.held.items c.args.place (Some c.in-Err.kept) c.put.ensures.held other apart ∙ others_set old between c.args.place c.take.new.self refl other apart

pub returns-in-Err-clause-none : goal.returns-in-Err-clause-none
returns-in-Err-clause-none g c setup seats all =
    let left : c.take.new.self ≡ None = cc (c.take.ensures.after) in
    put_closed _ _ _ c.put.new.self.held.items c.args.place c.in-Err.kept c.put.ensures.held c.in-Err.ensures.closed setup seats
    (take_none _ _ c.args.self.now.held.items c.args.place c.take.new.self left setup seats all)
