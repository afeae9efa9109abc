use Rattle.std.proofs.Common.{◌∙◌, ap, get_or, length, map, refl, rules}
use Rattle.stick_model.specs.declared.events.Event.TheVariants as events
use Rattle.admit_core.specs.Connection.{answers_need}
use Rattle.admit_core.specs.declared.need.Need.TheVariants as needs
use Rattle.shard_port.specs.Port.{place}
use Rattle.admit_port.proofs.AskLemmas.{tracked, tracking_answers, moved_answered, moved_refused, named_there, names_there, place_is, ready_heard, ready_refused, parts_stay}
use Rattle.admit_port.proofs.asking.track.Goals as goal

pub bounds-ports-table : goal.bounds-ports-table
bounds-ports-table g c = named_there g.P.Port.meaning g.P.Port.state c.args.moment c.args.ports.now c.args.conn.now c.requires.ready (needs.Track c.args.slot c.args.table c.args.key) c.requires.needs

pub offset_bounds-ports-table : goal.offset_bounds-ports-table
offset_bounds-ports-table g c = let within = named_there g.P.Port.meaning g.P.Port.state c.args.moment c.args.ports.now c.args.conn.now c.requires.ready (needs.Track c.args.slot c.args.table c.args.key) c.requires.needs in search rules

pub take-requires-clause-answers : goal.take-requires-clause-answers
take-requires-clause-answers g c = ap (λ w. answers_need w c.tracked_or_not-answer.result c.in-Ok.reference) c.requires.needs ∙ ap (λ a. answers_need (needs.Track c.args.slot c.args.table c.args.key) a c.in-Ok.reference) c.tracked_or_not-answer.ensures ∙ tracking_answers c.args.slot c.args.table c.args.key c.in-Ok.reference

pub returns-in-Ok-clause-ready : goal.returns-in-Ok-clause-ready
returns-in-Ok-clause-ready g c =
    let at = (place g.P.Port.meaning (g.P.Port.state (get_or c.args.ports.now c.args.table c.index-ports-table.result)) c.args.key) in
    ready_heard g.P.Port.meaning g.P.Port.state c.args.moment c.args.ports.now c.args.conn.now c.requires.ready c.args.table c.index-ports-table.result c.track.new.self c.take.new.conn c.track.ensures.parts c.take.ensures.given
    (c.take.ensures.held (length (map g.P.Port.state c.args.ports.now)) c.requires.ready.held (names_there g.P.Port.meaning g.P.Port.state c.args.moment c.args.ports.now c.args.conn.now c.requires.ready)) at c.in-Ok.ensures.ok.reply
    (tracked g.P.Port.meaning c.args.conn.now c.take.new.conn at c.in-Ok.ensures.ok.reply c.tracked_or_not-answer.result c.in-Ok.reference c.in-Ok.ensures.ok.tracking c.in-Ok.ensures.ok.comes c.tracked_or_not-answer.ensures c.take.ensures.stands)

pub returns-in-Ok-clause-moved : goal.returns-in-Ok-clause-moved
returns-in-Ok-clause-moved g c =
    let at = (place g.P.Port.meaning (g.P.Port.state (get_or c.args.ports.now c.args.table c.index-ports-table.result)) c.args.key) in
    moved_answered g.P.Port.meaning g.P.Port.state c.args.moment c.args.ports.now c.args.conn.now c.requires.ready (needs.Track c.args.slot c.args.table c.args.key) (record { table = c.args.table; shard = (place g.P.Port.meaning (g.P.Port.state (get_or c.args.ports.now c.args.table c.index-ports-table.result)) c.args.key); event = events.Track c.args.moment c.args.key }) c.index-ports-table.result c.track.new.self c.take.new.conn c.requires.needs
    (λ k. record { table = c.args.table; shard = place_is g.P.Port.meaning g.P.Port.state c.args.moment c.args.ports.now c.args.conn.now c.requires.ready c.args.table c.index-ports-table.result c.args.key (named_there g.P.Port.meaning g.P.Port.state c.args.moment c.args.ports.now c.args.conn.now c.requires.ready (needs.Track c.args.slot c.args.table c.args.key) c.requires.needs) k; event = events.Track c.args.moment c.args.key })
    (named_there g.P.Port.meaning g.P.Port.state c.args.moment c.args.ports.now c.args.conn.now c.requires.ready (needs.Track c.args.slot c.args.table c.args.key) c.requires.needs) c.in-Ok.ensures.ok.reply c.in-Ok.ensures.ok.answers
    (tracked g.P.Port.meaning c.args.conn.now c.take.new.conn at c.in-Ok.ensures.ok.reply c.tracked_or_not-answer.result c.in-Ok.reference c.in-Ok.ensures.ok.tracking c.in-Ok.ensures.ok.comes c.tracked_or_not-answer.ensures c.take.ensures.stands)

pub returns-in-Err-clause-ready : goal.returns-in-Err-clause-ready
returns-in-Err-clause-ready g c =
    ready_refused g.P.Port.meaning g.P.Port.state c.args.moment c.args.ports.now c.args.conn.now c.requires.ready c.args.table c.index-ports-table.result c.track.new.self c.skip.new.conn c.track.ensures.parts c.skip.ensures.given
    (c.skip.ensures.held (length (map g.P.Port.state c.args.ports.now)) c.requires.ready.held) c.skip.ensures.stands

pub returns-in-Err-clause-moved : goal.returns-in-Err-clause-moved
returns-in-Err-clause-moved g c =
    moved_refused g.P.Port.meaning g.P.Port.state c.args.moment c.args.ports.now c.args.conn.now c.requires.ready (needs.Track c.args.slot c.args.table c.args.key) (record { table = c.args.table; shard = (place g.P.Port.meaning (g.P.Port.state (get_or c.args.ports.now c.args.table c.index-ports-table.result)) c.args.key); event = events.Track c.args.moment c.args.key }) c.index-ports-table.result c.track.new.self c.skip.new.conn c.requires.needs
    (λ k. record { table = c.args.table; shard = place_is g.P.Port.meaning g.P.Port.state c.args.moment c.args.ports.now c.args.conn.now c.requires.ready c.args.table c.index-ports-table.result c.args.key (named_there g.P.Port.meaning g.P.Port.state c.args.moment c.args.ports.now c.args.conn.now c.requires.ready (needs.Track c.args.slot c.args.table c.args.key) c.requires.needs) k; event = events.Track c.args.moment c.args.key })
    (named_there g.P.Port.meaning g.P.Port.state c.args.moment c.args.ports.now c.args.conn.now c.requires.ready (needs.Track c.args.slot c.args.table c.args.key) c.requires.needs) c.in-Err.field-0 c.in-Err.ensures.refused c.in-Err.ensures.err refl c.skip.ensures.stands

pub returns-in-Ok-clause-parts : goal.returns-in-Ok-clause-parts
returns-in-Ok-clause-parts g c = parts_stay g.P.Port.meaning.parts g.P.Port.state c.args.ports.now c.args.table c.index-ports-table.result c.track.new.self c.track.ensures.parts

pub returns-in-Err-clause-parts : goal.returns-in-Err-clause-parts
returns-in-Err-clause-parts g c = parts_stay g.P.Port.meaning.parts g.P.Port.state c.args.ports.now c.args.table c.index-ports-table.result c.track.new.self c.track.ensures.parts
