use Rattle.std.proofs.Common.{◌≡◌, Option, sym, subst, ◌∙◌}
use Rattle.std.specs.Prelude.{IfOk}
use Rattle.stick_pooled.specs.declared.entry.Kept.{Kept}
use Rattle.stick_pooled.proofs.KeepLemmas.{key_there, kept_empty, kept_live, kept_copied}
use Rattle.stick_pooled.proofs.entry_store.Store.kept.Goals as goal

pub returns-then-has_empty : goal.returns-then-has_empty
returns-then-has_empty c = kept_empty c.self.inside.entries c.self.inside.index c.self.inside.order c.self.inside.rows c.self.inside.images c.self.invariant.0 c.self.invariant.1 c.args.self.now c.self.view_is c.args.slot (sym c.has_empty.ensures ∙ c.if-has_empty.true)

pub returns-then-not-has : goal.returns-then-not-has
returns-then-not-has c =
    subst (λ (o : Option Kept). IfOk c.current.result (λ kept. kept ≡ o))
    (kept_live c.self.inside.entries c.self.inside.index c.self.inside.order c.self.inside.rows c.self.inside.images c.self.invariant.0 c.self.invariant.1 c.args.self.now c.self.view_is c.args.slot (sym c.has.ensures ∙ c.if-not-has.true)) c.current.ensures

pub copy_image-requires-clause-keyed : goal.copy_image-requires-clause-keyed
copy_image-requires-clause-keyed c p there none = key_there c.self.inside.entries c.self.inside.index c.self.inside.order c.self.inside.rows c.self.inside.images c.self.invariant.0 c.self.invariant.1 c.args.self.now c.self.view_is c.args.slot p there none

pub returns : goal.returns
returns c =
    kept_copied c.self.inside.entries c.self.inside.index c.self.inside.order c.self.inside.rows c.self.inside.images c.self.invariant.0 c.self.invariant.1 c.args.self.now c.self.view_is c.args.slot c.in_ok-kept.kept
    (sym c.has.ensures ∙ c.if-not-has.false) (sym c.has_empty.ensures ∙ c.if-has_empty.false) c.in_ok-kept.ensures
