use Rattle.std.proofs.Common.{◌≡◌, [], length, sym, ap, ◌∙◌, arith, rules}
use Rattle.stick_model.specs.State.{State}
use Rattle.shard_book.specs.BookState.{BookState}
use Rattle.shard_book.proofs.RollLemmas.{rolled_so}
use Rattle.shard_book.proofs.book.Book.roll.Goals as goal

pub invariant_of-self-2 : goal.invariant_of-self-2
invariant_of-self-2 g c =
    let inside : BookState = record { base = g.T.Table.base c.self.inside.live; calls = c.self.inside.calls.items; live = g.T.Table.state c.self.inside.live } in
    let base : State = g.T.Table.base c.set_base.new.self in
    let live : State = g.T.Table.state c.set_base.new.self in
    let same : base ≡ inside.live = search rules in
    let stays : live ≡ inside.live = c.set_base.ensures.stays in
    let none : c.clear.new.self.items ≡ [] = search rules in (
      rolled_so inside base live c.clear.new.self.items c.self.invariant.0 same stays none,
      record { counted = c.self.invariant.1.counted ∙ ap (λ (s : State). length s.tickets) (sym stays); room = omega (arith, c.clear.ensures.len, c.clear.ensures.capacity, c.self.invariant.1.room) },
    )

pub returns-clause-book : goal.returns-clause-book
returns-clause-book g c =
    let inside : BookState = record { base = g.T.Table.base c.self.inside.live; calls = c.self.inside.calls.items; live = g.T.Table.state c.self.inside.live } in
    let base : State = g.T.Table.base c.set_base.new.self in
    let live : State = g.T.Table.state c.set_base.new.self in
    let same : base ≡ inside.live = search rules in
    let stays : live ≡ inside.live = c.set_base.ensures.stays in
    let none : c.clear.new.self.items ≡ [] = search rules in
    rolled_so inside base live c.clear.new.self.items c.self.invariant.0 same stays none
