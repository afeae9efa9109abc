use Rattle.std.proofs.Common.{sym, subst}
use Rattle.stick_pooled.specs.Album.{Album}
use Rattle.stick_pooled.specs.Stock.{IsStock}
use Rattle.stick_pooled.specs.Parts.{base_shown, shown, slots_in, AreParts, IsAlbumOf}
use Rattle.stick_pooled.proofs.KeepLemmas.{set_shown, set_kept, few_slots}
use Rattle.stick_pooled.proofs.entry_store.Store.set_base.Goals as goal

pub renew-requires : goal.renew-requires
renew-requires c = few_slots c.self.inside.entries c.self.inside.index c.self.inside.order c.self.inside.rows c.self.inside.images c.self.invariant.0 c.self.invariant.1 c.args.self.now c.self.view_is c.capacity-size.result c.capacity-size.ensures c.requires

-- where it was refused the images are as they were
pub invariant_of-self : goal.invariant_of-self
invariant_of-self c =
    let s = c.self.inside in
    subst (λ (a : Album). AreParts s.entries s.index s.order s.rows × (IsStock (shown s.entries s.index s.order s.rows (base_shown s.entries s.index s.rows a)) × IsAlbumOf s.rows.columns (slots_in s.entries.slots s.index.slots s.rows.rows) a))
    (sym c.in_err-renew.ensures.err) c.self.invariant

pub invariant_of-self-2 : goal.invariant_of-self-2
invariant_of-self-2 c =
    set_kept c.self.inside.entries c.self.inside.index c.self.inside.order c.self.inside.rows c.self.inside.images c.self.invariant.0 c.self.invariant.1 c.args.self.now c.self.view_is c.renew.new.self c.capacity-size.result c.in_ok-renew.ensures.ok c.capacity-size.ensures

pub returns-clause-ok : goal.returns-clause-ok
returns-clause-ok c =
    set_shown c.self.inside.entries c.self.inside.index c.self.inside.order c.self.inside.rows c.self.inside.images c.self.invariant.0 c.self.invariant.1 c.args.self.now c.self.view_is c.renew.new.self c.capacity-size.result c.in_ok-renew.ensures.ok
