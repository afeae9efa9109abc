use Rattle.std.proofs.Common.{length, map, refl}
use Rattle.stick_model.specs.declared.events.Event.TheVariants as events
use Rattle.stick_model.specs.declared.replies.Reply.TheVariants as replies
use Rattle.admit_core.specs.declared.need.Need.TheVariants as needs
use Rattle.admit_port.proofs.AskLemmas.{by_slot, moved_answered, moved_refused, names_there, none_held, ready_heard, ready_refused, slot_within, parts_stay}
use Rattle.admit_port.proofs.asking.count.Goals as goal

pub unreachable-requires : goal.unreachable-requires
unreachable-requires g c = none_held g.P.Port.meaning g.P.Port.state c.args.moment c.args.ports.now c.args.conn.now c.requires.ready c.args.slot (needs.Count c.args.slot c.args.act) c.requires.needs refl c.in_default.ensures

pub returns-in-Ok-clause-ready : goal.returns-in-Ok-clause-ready
returns-in-Ok-clause-ready g c =
    ready_heard g.P.Port.meaning g.P.Port.state c.args.moment c.args.ports.now c.args.conn.now c.requires.ready c.in-Some.table c.index-ports-table.result c.count.new.self c.take.new.conn c.count.ensures.parts c.take.ensures.given
    (c.take.ensures.held (length (map g.P.Port.state c.args.ports.now)) c.requires.ready.held (names_there g.P.Port.meaning g.P.Port.state c.args.moment c.args.ports.now c.args.conn.now c.requires.ready)) (g.P.Port.meaning.shard_of c.in-Some.reference.now) (replies.Value c.in-Ok.value) c.take.ensures.stands

pub returns-in-Ok-clause-moved : goal.returns-in-Ok-clause-moved
returns-in-Ok-clause-moved g c =
    let reference = c.in-Some.reference.now in
    moved_answered g.P.Port.meaning g.P.Port.state c.args.moment c.args.ports.now c.args.conn.now c.requires.ready (needs.Count c.args.slot c.args.act) (record { table = c.in-Some.table; shard = g.P.Port.meaning.shard_of reference; event = events.Count c.args.moment (g.P.Port.meaning.ticket_of reference) c.args.act }) c.index-ports-table.result c.count.new.self c.take.new.conn c.requires.needs
    (by_slot g.P.Port.meaning g.P.Port.state c.args.moment c.args.ports.now c.args.conn.now c.requires.ready (λ ticket. events.Count c.args.moment ticket c.args.act) c.args.slot c.in-Some.table reference c.in-Some.ensures)
    (slot_within g.P.Port.meaning g.P.Port.state c.args.moment c.args.ports.now c.args.conn.now c.requires.ready c.args.slot (c.in-Some.table, reference) c.in-Some.ensures) (replies.Value c.in-Ok.value) c.in-Ok.ensures.ok c.take.ensures.stands

pub returns-in-Err-clause-ready : goal.returns-in-Err-clause-ready
returns-in-Err-clause-ready g c =
    ready_refused g.P.Port.meaning g.P.Port.state c.args.moment c.args.ports.now c.args.conn.now c.requires.ready c.in-Some.table c.index-ports-table.result c.count.new.self c.skip.new.conn c.count.ensures.parts c.skip.ensures.given
    (c.skip.ensures.held (length (map g.P.Port.state c.args.ports.now)) c.requires.ready.held) c.skip.ensures.stands

pub returns-in-Err-clause-moved : goal.returns-in-Err-clause-moved
returns-in-Err-clause-moved g c =
    let reference = c.in-Some.reference.now in
    moved_refused g.P.Port.meaning g.P.Port.state c.args.moment c.args.ports.now c.args.conn.now c.requires.ready (needs.Count c.args.slot c.args.act) (record { table = c.in-Some.table; shard = g.P.Port.meaning.shard_of reference; event = events.Count c.args.moment (g.P.Port.meaning.ticket_of reference) c.args.act }) c.index-ports-table.result c.count.new.self c.skip.new.conn c.requires.needs
    (by_slot g.P.Port.meaning g.P.Port.state c.args.moment c.args.ports.now c.args.conn.now c.requires.ready (λ ticket. events.Count c.args.moment ticket c.args.act) c.args.slot c.in-Some.table reference c.in-Some.ensures)
    (slot_within g.P.Port.meaning g.P.Port.state c.args.moment c.args.ports.now c.args.conn.now c.requires.ready c.args.slot (c.in-Some.table, reference) c.in-Some.ensures) c.in-Err.field-0 c.in-Err.ensures.refused c.in-Err.ensures.err refl c.skip.ensures.stands

pub returns-in-Ok-clause-parts : goal.returns-in-Ok-clause-parts
returns-in-Ok-clause-parts g c = parts_stay g.P.Port.meaning.parts g.P.Port.state c.args.ports.now c.in-Some.table c.index-ports-table.result c.count.new.self c.count.ensures.parts

pub returns-in-Err-clause-parts : goal.returns-in-Err-clause-parts
returns-in-Err-clause-parts g c = parts_stay g.P.Port.meaning.parts g.P.Port.state c.args.ports.now c.in-Some.table c.index-ports-table.result c.count.new.self c.count.ensures.parts
