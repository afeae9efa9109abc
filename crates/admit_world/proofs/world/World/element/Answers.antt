use Rattle.std.proofs.Common.{◌≡◌, ◌<◌, refl, sym, subst, length}
use Rattle.admit_world.specs.WorldCode.{WorldView, world_view}
use Rattle.admit_world.proofs.ScheduleLemmas.{reached_more}
use Rattle.admit_world.proofs.world.World.element.Goals as goal

pub invariant_of-self : goal.invariant_of-self
invariant_of-self g c =
    let inside : WorldView = world_view c.self.inside.setup.now c.self.inside.tables.items c.self.inside.visitors.items in
    let later : WorldView = world_view c.self.inside.setup.now c.go_on.new.tables.items c.go_on.new.visitors.items in
    let view : inside ≡ c.args.self.now = c.self.view_is in
    reached_more inside later c.args.number c.args.moment c.go_on.result refl (subst (λ (v : WorldView). c.args.number < length v.visitors) (sym view) c.requires.number) c.requires.moment c.go_on.ensures.went c.self.invariant
