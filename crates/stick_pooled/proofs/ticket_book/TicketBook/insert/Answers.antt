use Rattle.std.proofs.Common.{ℕ, ◌≡◌, ◌<◌, sym, subst, ap, refl, ◌∙◌, arith}
use Rattle.stick_pooled.specs.Tickets.{Tickets, is_unused, with_ticket}
use Rattle.stick_pooled.specs.Places.{IsSound, shown}
use Rattle.stick_pooled.proofs.PlaceLemmas.{kept-inserted, insert-shown, insert-unused, not-full}
use Rattle.stick_pooled.proofs.ticket_book.TicketBook.insert.Goals as goal

pub invariant_of-self : goal.invariant_of-self
invariant_of-self c =
    let p = c.self.inside.places in
    let same : p.newest ≡ c.args.self.now.newest = ap (λ (t : Tickets). t.newest) c.self.view_is in
    let newer : p.newest < c.in-Ok.handle.generation = omega (arith, same, c.in-Ok.ensures.generation) in
    subst IsSound (sym c.in-Ok.ensures.inserted) (kept-inserted p c.in-Ok.handle c.args.entry c.self.invariant newer c.in-Ok.ensures.free.0 c.in-Ok.ensures.free.1)

pub unreachable-requires : goal.unreachable-requires
unreachable-requires c = not-full c.self.inside.places c.args.self.now c.self.invariant c.self.view_is c.requires.room (c.in-Err.ensures.refused.0 refl)

pub returns-clause-unused : goal.returns-clause-unused
returns-clause-unused c =
    let p = c.self.inside.places in
    let same : p.newest ≡ c.args.self.now.newest = ap (λ (t : Tickets). t.newest) c.self.view_is in
    let newer : p.newest < c.in-Ok.handle.generation = omega (arith, same, c.in-Ok.ensures.generation) in
    ap (is_unused c.in-Ok.handle.slot) (sym c.self.view_is) ∙ insert-unused p c.in-Ok.handle c.args.entry c.self.invariant newer c.in-Ok.ensures.free.0 c.in-Ok.ensures.free.1

pub returns-clause-inserted : goal.returns-clause-inserted
returns-clause-inserted c =
    let p = c.self.inside.places in
    let same : p.newest ≡ c.args.self.now.newest = ap (λ (t : Tickets). t.newest) c.self.view_is in
    let newer : p.newest < c.in-Ok.handle.generation = omega (arith, same, c.in-Ok.ensures.generation) in
    ap shown c.in-Ok.ensures.inserted
    ∙ insert-shown p c.in-Ok.handle c.args.entry c.self.invariant newer c.in-Ok.ensures.free.0 c.in-Ok.ensures.free.1
    ∙ ap (λ (n : ℕ). with_ticket (shown p) (record { number = n; slot = c.in-Ok.handle.slot }) c.args.entry) c.in-Ok.ensures.generation
    ∙ ap (λ (t : Tickets). with_ticket t (record { number = c.args.number; slot = c.in-Ok.handle.slot }) c.args.entry) c.self.view_is
