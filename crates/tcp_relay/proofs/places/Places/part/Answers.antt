use Rattle.std.proofs.Common.{◌≡◌, ◌∙◌, sym, ap, subst, is_some, length, slice_get, None, Some}
use Rattle.admit_core.specs.Conn.{progress_of}
use Rattle.tcp_relay.specs.Releasing.{GivesBack, held_there, is_open_there}
use Rattle.tcp_relay.proofs.places.Places.part.Goals as goal

pub returns-then-holds-clause-back : goal.returns-then-holds-clause-back
returns-then-holds-clause-back g c now old new before back = subst (λ held. GivesBack now old new before held) (sym c.put_kept.ensures.held) back

pub returns-clause-held : goal.returns-clause-held
returns-clause-held g c =
    let same : c.free.new.self.held.items ≡ c.args.self.now.held.items = cc (c.free.ensures.held) in
    let there : slice_get c.free.new.self.held.items c.args.place ≡ Some None = ap (λ places. slice_get places c.args.place) same ∙ c.requires.free in
    ap (held_there (λ one. one.conn)) there ∙ sym (c.holds.ensures.held c.if-holds.false)

pub returns-clause-closed : goal.returns-clause-closed
returns-clause-closed g c =
    let same : c.free.new.self.held.items ≡ c.args.self.now.held.items = cc (c.free.ensures.held) in
    let there : slice_get c.free.new.self.held.items c.args.place ≡ Some None = ap (λ places. slice_get places c.args.place) same ∙ c.requires.free in
    ap (is_open_there (λ one. is_some one.link)) there

pub returns-clause-others : goal.returns-clause-others
returns-clause-others g c other apart =
    let same : c.free.new.self.held.items ≡ c.args.self.now.held.items = cc (c.free.ensures.held) in
    ap (λ places. slice_get places other) same

pub returns-clause-count : goal.returns-clause-count
returns-clause-count g c =
    let same : c.free.new.self.held.items ≡ c.args.self.now.held.items = cc (c.free.ensures.held) in
    ap length same

pub returns-clause-back : goal.returns-clause-back
returns-clause-back g c now old new before back =
    let same : c.free.new.self.held.items ≡ c.args.self.now.held.items = cc (c.free.ensures.held) in
    let there : slice_get c.free.new.self.held.items c.args.place ≡ Some None = ap (λ places. slice_get places c.args.place) same ∙ c.requires.free in
    let held : held_there (λ one. one.conn) (slice_get c.free.new.self.held.items c.args.place) ≡ (progress_of c.args.conn).held = ap (held_there (λ one. one.conn)) there ∙ sym (c.holds.ensures.held c.if-holds.false) in
    subst (λ held. GivesBack now old new before held) (sym held) back
