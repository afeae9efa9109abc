use Rattle.std.proofs.Common.{◌++◌, ◌∷◌, [], ap, ◌∙◌, subst, sym}
use Rattle.shard_record.specs.Calls.{call}
use Rattle.shard_record.specs.Telling.{IsTold, KeeperState, number_of}
use Rattle.shard_book.specs.BookState.{Extends}
use Rattle.shard_book.specs.Kept.{IsKept, IsMadeWith, KeptState}
use Rattle.shard_book.proofs.KeptLemmas.{has_answered, kept_more, made_with}
use Rattle.shard_book.proofs.kept.Kept.serve.Goals as goal

pub note-given-requires-clause-answered : goal.note-given-requires-clause-answered
note-given-requires-clause-answered g c =
    has_answered (g.J.Naming.specs c.self.inside.keeper.book) c.self.inside.book c.serve_lent.new.book c.self.inside.keeper.log c.args.seat.now.number c.args.event.now c.in_ok-reply.reply c.self.invariant c.requires.event c.in_ok-reply.ensures.lives c.in_ok-reply.ensures.ok

pub invariant_of-self-2 : goal.invariant_of-self-2
invariant_of-self-2 g c =
    subst (λ n. IsKept (g.J.Naming.specs n) c.serve_lent.new.book c.note-given.new.self.log) (sym (ap (λ (k : KeeperState). k.book) c.note-given.ensures.noted))
    (kept_more (g.J.Naming.specs c.self.inside.keeper.book) c.self.inside.book c.serve_lent.new.book c.self.inside.keeper.log c.note-given.new.self.log c.args.seat.now.number (number_of c.self.inside.keeper.book c.args.token.now) c.args.event.now c.in_ok-reply.reply c.self.invariant c.requires.event c.in_ok-reply.ensures.lives c.in_ok-reply.ensures.ok
    (ap (λ (k : KeeperState). k.log) c.note-given.ensures.noted))

pub returns-clause-ok : goal.returns-clause-ok
returns-clause-ok g c = subst (λ (k : KeptState). Extends k.book c.args.seat.now.number c.args.event.now c.in_ok-reply.reply c.serve_lent.new.book) c.self.view_is c.in_ok-reply.ensures.ok

pub returns-clause-recorded : goal.returns-clause-recorded
returns-clause-recorded g c =
    ap (λ (k : KeeperState). k.log) c.note-given.ensures.noted
    ∙ ap (λ (k : KeptState). k.log ++ call (number_of k.number c.args.token.now) c.args.event.now c.in_ok-reply.reply ∷ []) c.self.view_is

pub returns-clause-of_spec : goal.returns-clause-of_spec
returns-clause-of_spec g c =
    let later = c.note-given.new.self.log in
    let spec = g.J.Naming.specs c.self.inside.keeper.book in
    subst (λ (k : KeptState). IsMadeWith (g.J.Naming.specs k.number) later) c.self.view_is
    (made_with spec c.serve_lent.new.book later
    (kept_more spec c.self.inside.book c.serve_lent.new.book c.self.inside.keeper.log later c.args.seat.now.number (number_of c.self.inside.keeper.book c.args.token.now) c.args.event.now c.in_ok-reply.reply c.self.invariant c.requires.event c.in_ok-reply.ensures.lives c.in_ok-reply.ensures.ok
    (ap (λ (k : KeeperState). k.log) c.note-given.ensures.noted)))

pub returns-clause-mine : goal.returns-clause-mine
returns-clause-mine g c = subst (λ (k : KeptState). IsTold k.number c.args.event.now c.in_ok-reply.reply c.args.token.now c.note-given.new.seat) c.self.view_is c.note-given.ensures.told
