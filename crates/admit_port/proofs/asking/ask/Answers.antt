use Rattle.std.proofs.Common.{◌∙◌, ap, get_or, length, map, refl, rules, None}
use Rattle.stick_model.specs.declared.events.Event.TheVariants as events
use Rattle.admit_core.specs.Connection.{answers_need}
use Rattle.admit_core.specs.declared.need.Need.TheVariants as needs
use Rattle.shard_port.specs.Port.{place, row_reply}
use Rattle.admit_port.proofs.AskLemmas.{got, row_answers, moved_answered, moved_refused, named_there, names_there, place_is, ready_heard, ready_refused, parts_stay}
use Rattle.admit_port.proofs.asking.ask.Goals as goal

pub bounds-ports-table : goal.bounds-ports-table
bounds-ports-table g c = named_there g.P.Port.meaning g.P.Port.state c.args.moment c.args.ports.now c.args.conn.now c.requires.ready (needs.Get c.args.table c.args.key) c.requires.needs

pub offset_bounds-ports-table : goal.offset_bounds-ports-table
offset_bounds-ports-table g c = let within = named_there g.P.Port.meaning g.P.Port.state c.args.moment c.args.ports.now c.args.conn.now c.requires.ready (needs.Get c.args.table c.args.key) c.requires.needs in search rules

pub take-requires-clause-answers : goal.take-requires-clause-answers
take-requires-clause-answers g c = ap (λ w. answers_need {R = g.row.P-Reference.Denot} w c.row_or_absent.result None) c.requires.needs ∙ ap (λ a. answers_need {R = g.row.P-Reference.Denot} (needs.Get c.args.table c.args.key) a None) c.row_or_absent.ensures ∙ row_answers g.row.P-Reference.Denot c.args.table c.args.key c.in-Ok.row

pub returns-in-Ok-clause-ready : goal.returns-in-Ok-clause-ready
returns-in-Ok-clause-ready g c =
    let at = (place g.P.Port.meaning (g.P.Port.state (get_or c.args.ports.now c.args.table c.index-ports-table.result)) c.args.key) in
    ready_heard g.P.Port.meaning g.P.Port.state c.args.moment c.args.ports.now c.args.conn.now c.requires.ready c.args.table c.index-ports-table.result c.ask.new.self c.take.new.conn c.ask.ensures.parts c.take.ensures.given
    (c.take.ensures.held (length (map g.P.Port.state c.args.ports.now)) c.requires.ready.held (names_there g.P.Port.meaning g.P.Port.state c.args.moment c.args.ports.now c.args.conn.now c.requires.ready)) at (row_reply c.in-Ok.row)
    (got g.P.Port.meaning c.args.conn.now c.take.new.conn at c.in-Ok.row c.row_or_absent.result c.row_or_absent.ensures c.take.ensures.stands)

pub returns-in-Ok-clause-moved : goal.returns-in-Ok-clause-moved
returns-in-Ok-clause-moved g c =
    let at = (place g.P.Port.meaning (g.P.Port.state (get_or c.args.ports.now c.args.table c.index-ports-table.result)) c.args.key) in
    moved_answered g.P.Port.meaning g.P.Port.state c.args.moment c.args.ports.now c.args.conn.now c.requires.ready (needs.Get c.args.table c.args.key) (record { table = c.args.table; shard = (place g.P.Port.meaning (g.P.Port.state (get_or c.args.ports.now c.args.table c.index-ports-table.result)) c.args.key); event = events.Get c.args.moment c.args.key }) c.index-ports-table.result c.ask.new.self c.take.new.conn c.requires.needs
    (λ k. record { table = c.args.table; shard = place_is g.P.Port.meaning g.P.Port.state c.args.moment c.args.ports.now c.args.conn.now c.requires.ready c.args.table c.index-ports-table.result c.args.key (named_there g.P.Port.meaning g.P.Port.state c.args.moment c.args.ports.now c.args.conn.now c.requires.ready (needs.Get c.args.table c.args.key) c.requires.needs) k; event = events.Get c.args.moment c.args.key })
    (named_there g.P.Port.meaning g.P.Port.state c.args.moment c.args.ports.now c.args.conn.now c.requires.ready (needs.Get c.args.table c.args.key) c.requires.needs) (row_reply c.in-Ok.row) c.in-Ok.ensures.ok
    (got g.P.Port.meaning c.args.conn.now c.take.new.conn at c.in-Ok.row c.row_or_absent.result c.row_or_absent.ensures c.take.ensures.stands)

pub returns-in-Err-clause-ready : goal.returns-in-Err-clause-ready
returns-in-Err-clause-ready g c =
    ready_refused g.P.Port.meaning g.P.Port.state c.args.moment c.args.ports.now c.args.conn.now c.requires.ready c.args.table c.index-ports-table.result c.ask.new.self c.skip.new.conn c.ask.ensures.parts c.skip.ensures.given
    (c.skip.ensures.held (length (map g.P.Port.state c.args.ports.now)) c.requires.ready.held) c.skip.ensures.stands

pub returns-in-Err-clause-moved : goal.returns-in-Err-clause-moved
returns-in-Err-clause-moved g c =
    moved_refused g.P.Port.meaning g.P.Port.state c.args.moment c.args.ports.now c.args.conn.now c.requires.ready (needs.Get c.args.table c.args.key) (record { table = c.args.table; shard = (place g.P.Port.meaning (g.P.Port.state (get_or c.args.ports.now c.args.table c.index-ports-table.result)) c.args.key); event = events.Get c.args.moment c.args.key }) c.index-ports-table.result c.ask.new.self c.skip.new.conn c.requires.needs
    (λ k. record { table = c.args.table; shard = place_is g.P.Port.meaning g.P.Port.state c.args.moment c.args.ports.now c.args.conn.now c.requires.ready c.args.table c.index-ports-table.result c.args.key (named_there g.P.Port.meaning g.P.Port.state c.args.moment c.args.ports.now c.args.conn.now c.requires.ready (needs.Get c.args.table c.args.key) c.requires.needs) k; event = events.Get c.args.moment c.args.key })
    (named_there g.P.Port.meaning g.P.Port.state c.args.moment c.args.ports.now c.args.conn.now c.requires.ready (needs.Get c.args.table c.args.key) c.requires.needs) c.in-Err.field-0 c.in-Err.ensures.refused c.in-Err.ensures.err refl c.skip.ensures.stands

pub returns-in-Ok-clause-parts : goal.returns-in-Ok-clause-parts
returns-in-Ok-clause-parts g c = parts_stay g.P.Port.meaning.parts g.P.Port.state c.args.ports.now c.args.table c.index-ports-table.result c.ask.new.self c.ask.ensures.parts

pub returns-in-Err-clause-parts : goal.returns-in-Err-clause-parts
returns-in-Err-clause-parts g c = parts_stay g.P.Port.meaning.parts g.P.Port.state c.args.ports.now c.args.table c.index-ports-table.result c.ask.new.self c.ask.ensures.parts
