use Rattle.std.proofs.Common.{ap, ◌∙◌}
use Rattle.tcp_link.specs.Links.{way_from, way_to}
use Rattle.tcp_link.specs.Ways.{told_also}
use Rattle.tcp_link.proofs.LinkLemmas.{from_since, hands_on_turn, hands_on_watched, to_since}
use Rattle.tcp_link.proofs.link.Link.turn.Goals as goal

pub returns-else-not-is_settled-clause-from : goal.returns-else-not-is_settled-clause-from
returns-else-not-is_settled-clause-from c waited waits =
    from_since c.args.ready.side (told_also (way_from c.args.ready.side c.args.self.now) c.args.ready.ahead) c.turn_side.new.self c.finish_turn.new.self
    (ap (λ link. link.there) c.finish_turn.ensures.same) (ap (λ link. link.back) c.finish_turn.ensures.same)
    (c.turn_side.ensures.from c.if-turn_side.false)

pub returns-else-not-is_settled-clause-to : goal.returns-else-not-is_settled-clause-to
returns-else-not-is_settled-clause-to c waited waits =
    to_since c.args.ready.side (way_to c.args.ready.side c.args.self.now) c.turn_side.new.self c.finish_turn.new.self
    (ap (λ link. link.there) c.finish_turn.ensures.same) (ap (λ link. link.back) c.finish_turn.ensures.same)
    (c.turn_side.ensures.to c.if-turn_side.false)

pub returns-else-not-is_settled-clause-ends : goal.returns-else-not-is_settled-clause-ends
returns-else-not-is_settled-clause-ends c waited waits =
    hands_on_turn c.args.ready.has_failed c.args.self.now c.turn_side.new.self c.finish_turn.new.self
    (c.turn_side.ensures.same c.if-turn_side.false) c.finish_turn.ensures.ends

pub returns-then-not-is_settled-clause-from : goal.returns-then-not-is_settled-clause-from
returns-then-not-is_settled-clause-from c waited waits =
    from_since c.args.ready.side (told_also (way_from c.args.ready.side c.args.self.now) c.args.ready.ahead) c.turn_side.new.self c.watch_on.new.self
    (ap (λ link. link.there) c.watch_on.ensures.same ∙ ap (λ link. link.there) c.finish_turn.ensures.same)
    (ap (λ link. link.back) c.watch_on.ensures.same ∙ ap (λ link. link.back) c.finish_turn.ensures.same)
    (c.turn_side.ensures.from c.if-turn_side.false)

pub returns-then-not-is_settled-clause-to : goal.returns-then-not-is_settled-clause-to
returns-then-not-is_settled-clause-to c waited waits =
    to_since c.args.ready.side (way_to c.args.ready.side c.args.self.now) c.turn_side.new.self c.watch_on.new.self
    (ap (λ link. link.there) c.watch_on.ensures.same ∙ ap (λ link. link.there) c.finish_turn.ensures.same)
    (ap (λ link. link.back) c.watch_on.ensures.same ∙ ap (λ link. link.back) c.finish_turn.ensures.same)
    (c.turn_side.ensures.to c.if-turn_side.false)

pub returns-then-not-is_settled-clause-ends : goal.returns-then-not-is_settled-clause-ends
returns-then-not-is_settled-clause-ends c waited waits =
    hands_on_watched c.args.ready.has_failed c.args.self.now c.finish_turn.new.self c.watch_on.new.self c.watch_on.ensures.same
    (hands_on_turn c.args.ready.has_failed c.args.self.now c.turn_side.new.self c.finish_turn.new.self
    (c.turn_side.ensures.same c.if-turn_side.false) c.finish_turn.ensures.ends)
