use Rattle.std.proofs.Common.{◌∙◌, ap, sym}
use Rattle.admit_core.specs.Connection.{Progress}
use Rattle.admit_core.specs.Held.{held_at}
use Rattle.shard_port.specs.declared.reference.Reference.{Reference}
use Rattle.admit_world.specs.WorldCode.{WorldView}
use Rattle.admit_world.proofs.ScheduleLemmas.{same_progress}
use Rattle.admit_world.proofs.world.World.held.Goals as goal

pub returns-in-Some : goal.returns-in-Some
returns-in-Some g c visits world connection stands at =
    c.in-Some.ensures ∙ ap (λ (p : Progress Reference). held_at p.held c.args.slot) (same_progress c.args.self.now c.self.inside.visitors.items c.args.number c.index.result.now visits world connection (sym (ap (λ (v : WorldView). v.visitors) c.self.view_is)) c.requires c.index.ensures stands at)

pub returns-in-None : goal.returns-in-None
returns-in-None g c visits world connection stands at =
    c.in-None.ensures ∙ ap (λ (p : Progress Reference). held_at p.held c.args.slot) (same_progress c.args.self.now c.self.inside.visitors.items c.args.number c.index.result.now visits world connection (sym (ap (λ (v : WorldView). v.visitors) c.self.view_is)) c.requires c.index.ensures stands at)
