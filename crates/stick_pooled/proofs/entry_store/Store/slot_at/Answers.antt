use Rattle.std.proofs.Common.{◌≡◌, Option, None, get_or, sym, ap, subst, ◌∙◌}
use Rattle.std.specs.Prelude.{IfOk}
use Rattle.std.specs.Option.{option_map}
use Rattle.std.proofs.Math.ListN.{get_or-map}
use Rattle.stick_pooled.specs.Stock.{kept_of, kept_slots}
use Rattle.stick_pooled.specs.declared.entry.Kept.{Kept}
use Rattle.stick_pooled.specs.declared.entry.Point.{Point}
use Rattle.stick_pooled.proofs.entry_store.Store.slot_at.Goals as goal

pub returns-in-Now : goal.returns-in-Now
returns-in-Now c =
    subst (λ (o : Option Kept). IfOk c.current.result (λ kept. kept ≡ o))
    (sym (ap (λ (point : Point). get_or (kept_slots point c.args.self.now) c.args.slot None) c.in-Now.is ∙ get_or-map (option_map kept_of) c.args.self.now.slots c.args.slot None)) c.current.ensures

pub returns-in-Base : goal.returns-in-Base
returns-in-Base c =
    subst (λ (o : Option Kept). IfOk c.kept.result (λ kept. kept ≡ o))
    (sym (ap (λ (point : Point). get_or (kept_slots point c.args.self.now) c.args.slot None) c.in-Base.is)) c.kept.ensures
