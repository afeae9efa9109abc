use Rattle.std.proofs.Common.{◌<◌, ◌≤◌, sym, subst, ◌∙◌, ap, not}
use Rattle.stick_pooled.proofs.RoomLemmas.{roomy-below, full-kept, full-tracked, roomy-purged, none-from, some-from}
use Rattle.stick_pooled.proofs.room.make_room.Goals as goal

pub returns-then-len-spec-clause-roomy : goal.returns-then-len-spec-clause-roomy
returns-then-len-spec-clause-roomy c =
    roomy-below c.args.spec.now c.args.store.now c.requires.stock c.requires.rising c.requires.sized (subst (λ n. n < c.args.spec.now.size) c.len.ensures c.if-len-spec.true)

pub returns-then-spec-clause-full : goal.returns-then-spec-clause-full
returns-then-spec-clause-full c =
    full-kept c.args.spec.now c.args.store.now c.requires.stock c.requires.rising c.requires.sized (subst (λ n. c.args.spec.now.size ≤ n) c.len.ensures c.if-len-spec.false) c.if-spec.true

pub returns-then-is_none-clause-full : goal.returns-then-is_none-clause-full
returns-then-is_none-clause-full c =
    full-tracked c.args.spec.now c.args.store.now c.requires.stock c.requires.rising c.requires.sized (subst (λ n. c.args.spec.now.size ≤ n) c.len.ensures c.if-len-spec.false) (sym c.front.ensures.first ∙ none-from c.front.result (c.is_none.ensures ∙ ap not c.if-is_none.true))

pub returns-clause-roomy : goal.returns-clause-roomy
returns-clause-roomy c =
    let front = some-from c.front.result (c.is_none.ensures ∙ ap not c.if-is_none.false) in
    roomy-purged c.args.spec.now c.args.store.now c.requires.stock c.requires.rising c.requires.sized c.requires.purge (subst (λ n. c.args.spec.now.size ≤ n) c.len.ensures c.if-len-spec.false) c.if-spec.false
    front.0 (sym c.front.ensures.first ∙ front.1) c.purge_oldest.new.store c.purge_oldest.ensures
