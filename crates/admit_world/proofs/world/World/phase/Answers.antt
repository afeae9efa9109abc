use Rattle.std.proofs.Common.{◌∙◌, ap, sym}
use Rattle.admit_core.specs.Connection.{Progress}
use Rattle.shard_port.specs.declared.reference.Reference.{Reference}
use Rattle.admit_world.specs.WorldCode.{WorldView}
use Rattle.admit_world.proofs.ScheduleLemmas.{same_progress}
use Rattle.admit_world.proofs.world.World.phase.Goals as goal

pub returns : goal.returns
returns g c visits world connection stands at =
    c.phase.ensures ∙ ap (λ (p : Progress Reference). p.phase) (same_progress c.args.self.now c.self.inside.visitors.items c.args.number c.index.result.now visits world connection (sym (ap (λ (v : WorldView). v.visitors) c.self.view_is)) c.requires c.index.ensures stands at)
