use Rattle.std.proofs.Common.{◌∙◌, ap, sym, length, map, refl, Some}
use Rattle.stick_model.specs.declared.events.Event.TheVariants as events
use Rattle.stick_model.specs.declared.replies.Reply.TheVariants as replies
use Rattle.admit_core.specs.Connection.{gave}
use Rattle.admit_core.specs.declared.need.Need.TheVariants as needs
use Rattle.admit_port.proofs.AskLemmas.{by_slot, kept_so, moved_answered, moved_kept, none_held, ready_heard, ready_kept, slot_within, parts_stay}
use Rattle.admit_port.proofs.HearLemmas.{handed_out, kept_holds, released_holds, released_left}
use Rattle.admit_port.proofs.asking.release.Goals as goal

pub unreachable-requires : goal.unreachable-requires
unreachable-requires g c = none_held g.P.Port.meaning g.P.Port.state c.args.moment c.args.ports.now c.args.conn.now c.requires.ready c.args.slot (needs.Release c.args.slot) c.requires.needs refl c.in_default.ensures

pub bounds-ports-table : goal.bounds-ports-table
bounds-ports-table g c = slot_within g.P.Port.meaning g.P.Port.state c.args.moment c.args.ports.now c.args.conn.now c.requires.ready c.args.slot (c.in-Some.table, c.in-Some.field-0-1.now) c.in-Some.ensures

pub returns-in-Ok-clause-ready : goal.returns-in-Ok-clause-ready
returns-in-Ok-clause-ready g c =
    ready_heard g.P.Port.meaning g.P.Port.state c.args.moment c.args.ports.now c.args.conn.now c.requires.ready c.in-Some.table c.index-ports-table.result c.release.new.self c.take.new.self c.release.ensures.parts c.take.ensures.given
    (released_holds c.args.conn.now c.give-reference.new.self c.args.slot c.in-Some.table c.in-Some.field-0-1.now c.requires.needs c.in-Some.ensures c.give-reference.ensures.progress (length (map g.P.Port.state c.args.ports.now)) c.take.new.self c.requires.ready.held c.take.ensures.progress)
    (g.P.Port.meaning.shard_of c.give-reference.result) replies.Released (λ connection stood. c.take.ensures.stands (gave connection) (c.give-reference.ensures.stands connection stood))

pub returns-in-Ok-clause-moved : goal.returns-in-Ok-clause-moved
returns-in-Ok-clause-moved g c =
    let reference = c.give-reference.result in
    let held = handed_out c.args.conn.now c.give-reference.new.self c.args.slot c.in-Some.table c.in-Some.field-0-1.now c.requires.needs c.in-Some.ensures c.give-reference.ensures.progress reference c.give-reference.ensures.reference in
    moved_answered g.P.Port.meaning g.P.Port.state c.args.moment c.args.ports.now c.args.conn.now c.requires.ready (needs.Release c.args.slot) (record { table = c.in-Some.table; shard = g.P.Port.meaning.shard_of reference; event = events.Release c.args.moment (g.P.Port.meaning.ticket_of reference) }) c.index-ports-table.result c.release.new.self c.take.new.self c.requires.needs
    (by_slot g.P.Port.meaning g.P.Port.state c.args.moment c.args.ports.now c.args.conn.now c.requires.ready (λ ticket. events.Release c.args.moment ticket) c.args.slot c.in-Some.table reference held)
    (slot_within g.P.Port.meaning g.P.Port.state c.args.moment c.args.ports.now c.args.conn.now c.requires.ready c.args.slot (c.in-Some.table, reference) held) replies.Released c.in-Ok.ensures.ok (λ connection stood. c.take.ensures.stands (gave connection) (c.give-reference.ensures.stands connection stood))

pub returns-in-Ok-clause-left : goal.returns-in-Ok-clause-left
returns-in-Ok-clause-left g c _ =
    released_left c.args.conn.now c.give-reference.new.self c.args.slot c.in-Some.table c.in-Some.field-0-1.now c.requires.needs c.in-Some.ensures c.give-reference.ensures.progress c.take.new.self
    c.requires.ready.given c.give-reference.ensures.rules c.take.ensures.less c.take.ensures.progress

pub returns-in-Err-clause-ready : goal.returns-in-Err-clause-ready
returns-in-Err-clause-ready g c =
    ready_kept g.P.Port.meaning g.P.Port.state c.args.moment c.args.ports.now c.args.conn.now c.requires.ready c.in-Some.table c.index-ports-table.result c.release.new.self c.refused.new.self c.release.ensures.parts c.refused.ensures.given
    (kept_holds c.args.conn.now c.give-reference.new.self c.args.slot c.in-Some.table c.in-Some.field-0-1.now c.requires.needs c.in-Some.ensures c.give-reference.ensures.progress (length (map g.P.Port.state c.args.ports.now)) c.refused.new.self c.in-Err.reference c.requires.ready.held
    (c.requires.ready.held c.args.slot (c.in-Some.table, c.in-Some.field-0-1.now) (sym c.in-Some.ensures)) c.refused.ensures.progress)
    c.in-Err.reference (λ connection stood. c.refused.ensures.stands (gave connection) (c.give-reference.ensures.stands connection stood))

pub returns-in-Err-clause-moved : goal.returns-in-Err-clause-moved
returns-in-Err-clause-moved g c =
    let reference = c.give-reference.result in
    let held = handed_out c.args.conn.now c.give-reference.new.self c.args.slot c.in-Some.table c.in-Some.field-0-1.now c.requires.needs c.in-Some.ensures c.give-reference.ensures.progress reference c.give-reference.ensures.reference in
    moved_kept g.P.Port.meaning g.P.Port.state c.args.moment c.args.ports.now c.args.conn.now c.requires.ready (needs.Release c.args.slot) (record { table = c.in-Some.table; shard = g.P.Port.meaning.shard_of reference; event = events.Release c.args.moment (g.P.Port.meaning.ticket_of reference) }) c.index-ports-table.result c.release.new.self c.refused.new.self c.requires.needs
    (by_slot g.P.Port.meaning g.P.Port.state c.args.moment c.args.ports.now c.args.conn.now c.requires.ready (λ ticket. events.Release c.args.moment ticket) c.args.slot c.in-Some.table reference held)
    (slot_within g.P.Port.meaning g.P.Port.state c.args.moment c.args.ports.now c.args.conn.now c.requires.ready c.args.slot (c.in-Some.table, reference) held) c.in-Err.field-0-1 c.in-Err.ensures.refused c.in-Err.ensures.err c.in-Err.reference (c.give-reference.ensures.reference ∙ ap (λ r. Some r) (sym c.in-Err.ensures.back))
    (λ connection stood. c.refused.ensures.stands (gave connection) (c.give-reference.ensures.stands connection stood))

pub returns-in-Ok-clause-kept : goal.returns-in-Ok-clause-kept
returns-in-Ok-clause-kept g c kept = cc

pub returns-in-Err-clause-kept : goal.returns-in-Err-clause-kept
returns-in-Err-clause-kept g c _ =
    let reference = c.give-reference.result in
    let held = handed_out c.args.conn.now c.give-reference.new.self c.args.slot c.in-Some.table c.in-Some.field-0-1.now c.requires.needs c.in-Some.ensures c.give-reference.ensures.progress reference c.give-reference.ensures.reference in
    kept_so g.P.Port.meaning g.P.Port.state c.args.moment c.args.ports.now c.args.conn.now c.requires.ready (needs.Release c.args.slot) (record { table = c.in-Some.table; shard = g.P.Port.meaning.shard_of reference; event = events.Release c.args.moment (g.P.Port.meaning.ticket_of reference) }) c.index-ports-table.result c.release.new.self c.refused.new.self c.requires.needs
    (by_slot g.P.Port.meaning g.P.Port.state c.args.moment c.args.ports.now c.args.conn.now c.requires.ready (λ ticket. events.Release c.args.moment ticket) c.args.slot c.in-Some.table reference held)
    (slot_within g.P.Port.meaning g.P.Port.state c.args.moment c.args.ports.now c.args.conn.now c.requires.ready c.args.slot (c.in-Some.table, reference) held) c.in-Err.field-0-1 c.in-Err.ensures.refused c.in-Err.ensures.err refl

pub returns-in-Ok-clause-parts : goal.returns-in-Ok-clause-parts
returns-in-Ok-clause-parts g c = parts_stay g.P.Port.meaning.parts g.P.Port.state c.args.ports.now c.in-Some.table c.index-ports-table.result c.release.new.self c.release.ensures.parts

pub returns-in-Err-clause-parts : goal.returns-in-Err-clause-parts
returns-in-Err-clause-parts g c = parts_stay g.P.Port.meaning.parts g.P.Port.state c.args.ports.now c.in-Some.table c.index-ports-table.result c.release.new.self c.release.ensures.parts
