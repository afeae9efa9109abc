use Rattle.std.proofs.Common.{◌≡◌, ◌++◌, ◌∷◌, [], sym, ap, ◌∙◌, subst}
use Rattle.stick_model.specs.declared.events.Event.TheVariants.{Release}
use Rattle.stick_model.specs.declared.replies.Reply.{Reply}
use Rattle.stick_model.specs.declared.replies.Reply.TheVariants.{Released}
use Rattle.shard_record.specs.Calls.{call}
use Rattle.shard_record.specs.Telling.{IsTold, KeeperState, number_of, ticket_at}
use Rattle.shard_book.specs.BookState.{Extends}
use Rattle.shard_book.specs.Kept.{IsKept, IsMadeWith, KeptState}
use Rattle.shard_book.proofs.KeptLemmas.{has_answered, kept_more, made_with, takes_release}
use Rattle.shard_book.proofs.kept.Kept.release.Goals as goal

pub note_release-requires-clause-release : goal.note_release-requires-clause-release
note_release-requires-clause-release g c =
    let same : c.args.ticket ≡ ticket_at c.self.inside.keeper.book c.args.reference = c.requires.ticket ∙ ap (λ (k : KeptState). ticket_at k.number c.args.reference) (sym c.self.view_is) in
    (c.args.now, ap (Release c.args.now) same)

pub note_release-requires-clause-answered : goal.note_release-requires-clause-answered
note_release-requires-clause-answered g c =
    let event = Release c.args.now c.args.ticket in
    has_answered (g.J.Naming.specs c.self.inside.keeper.book) c.self.inside.book c.serve_lent.new.book c.self.inside.keeper.log c.args.seat.now.number event c.in-Ok.reply c.self.invariant (takes_release c.args.now c.args.ticket c.requires.moment) c.in-Ok.ensures.lives c.in-Ok.ensures.ok

pub invariant_of-self-2 : goal.invariant_of-self-2
invariant_of-self-2 g c =
    let event = Release c.args.now c.args.ticket in
    let by = number_of c.self.inside.keeper.book c.args.token.now in
    subst (λ n. IsKept (g.J.Naming.specs n) c.serve_lent.new.book c.note_release.new.self.log) (sym (ap (λ (k : KeeperState). k.book) c.note_release.ensures.noted))
    (kept_more (g.J.Naming.specs c.self.inside.keeper.book) c.self.inside.book c.serve_lent.new.book c.self.inside.keeper.log c.note_release.new.self.log c.args.seat.now.number by event c.in-Ok.reply c.self.invariant (takes_release c.args.now c.args.ticket c.requires.moment) c.in-Ok.ensures.lives c.in-Ok.ensures.ok
    (ap (λ (k : KeeperState). k.log) c.note_release.ensures.noted))

pub returns-clause-recorded : goal.returns-clause-recorded
returns-clause-recorded g c =
    let event = Release c.args.now c.args.ticket in
    ap (λ (k : KeeperState). k.log) c.note_release.ensures.noted
    ∙ (ap (λ (r : Reply). c.self.inside.keeper.log ++ call (number_of c.self.inside.keeper.book c.args.token.now) event r ∷ []) c.note_release.ensures.released
    ∙ ap (λ (k : KeptState). k.log ++ call (number_of k.number c.args.token.now) event Released ∷ []) c.self.view_is)

pub returns-clause-of_spec : goal.returns-clause-of_spec
returns-clause-of_spec g c =
    let event = Release c.args.now c.args.ticket in
    let later = c.note_release.new.self.log in
    let spec = g.J.Naming.specs c.self.inside.keeper.book in
    let by = number_of c.self.inside.keeper.book c.args.token.now in
    subst (λ (k : KeptState). IsMadeWith (g.J.Naming.specs k.number) later) c.self.view_is
    (made_with spec c.serve_lent.new.book later
    (kept_more spec c.self.inside.book c.serve_lent.new.book c.self.inside.keeper.log later c.args.seat.now.number by event c.in-Ok.reply c.self.invariant (takes_release c.args.now c.args.ticket c.requires.moment) c.in-Ok.ensures.lives c.in-Ok.ensures.ok
    (ap (λ (k : KeeperState). k.log) c.note_release.ensures.noted)))

pub returns-clause-mine : goal.returns-clause-mine
returns-clause-mine g c =
    let event = Release c.args.now c.args.ticket in
    subst (λ (k : KeptState). IsTold k.number event Released c.args.token.now c.note_release.new.seat) c.self.view_is
    (subst (λ (r : Reply). IsTold c.self.inside.keeper.book event r c.args.token.now c.note_release.new.seat) c.note_release.ensures.released c.note_release.ensures.told)

pub returns-clause-ok : goal.returns-clause-ok
returns-clause-ok g c =
    let event = Release c.args.now c.args.ticket in
    subst (λ (k : KeptState). Extends k.book c.args.seat.now.number event Released c.serve_lent.new.book) c.self.view_is
    (subst (λ (r : Reply). Extends c.self.inside.book c.args.seat.now.number event r c.serve_lent.new.book) c.note_release.ensures.released c.in-Ok.ensures.ok)
