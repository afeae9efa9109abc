use Rattle.std.proofs.Common.{ap, ◌∙◌}
use Rattle.std.specs.Option.{option_map}
use Rattle.stick_pooled.specs.Stock.{Stock, Held, held_at}
use Rattle.stick_pooled.proofs.PartLemmas.{handle_is}
use Rattle.stick_pooled.specs.Parts.{base_shown}
use Rattle.stick_pooled.proofs.entry_store.Store.handle_at.Goals as goal

pub returns : goal.returns
returns c =
    let s = c.self.inside in
    c.handle_at.ensures ∙ handle_is s.entries s.index s.order s.rows c.self.invariant.0 (base_shown s.entries s.index s.rows s.images) c.args.slot
    ∙ ap (λ (x : Stock). option_map (λ (held : Held). record { slot = c.args.slot; generation = held.generation }) (held_at x c.args.slot)) c.self.view_is
