use Rattle.std.proofs.Common.{subst, Option, Some, None}
use Rattle.std.specs.Prelude.{IfSome, IfNone}
use Rattle.entry_pool.specs.declared.slot_handle.Handle.{Handle}
use Rattle.stick_pooled.specs.Stock.{Stock, IsAt, IsAbsent}
use Rattle.key_index.specs.Keys.{MapsTo}
use Rattle.stick_pooled.proofs.PartLemmas.{found, absent}
use Rattle.stick_pooled.specs.Parts.{base_shown}
use Rattle.stick_pooled.proofs.entry_store.Store.find.Goals as goal

if_some : (P Q : Handle → Type 0) (r : Option Handle) → ((h : Handle) → P h → Q h) → IfSome r P → IfSome r Q
if_some P Q None more h = tt
if_some P Q (Some x) more h = more x h

if_none : (P Q : Type 0) (r : Option Handle) → (P → Q) → IfNone r P → IfNone r Q
if_none P Q None more h = more h
if_none P Q (Some x) more h = tt

pub returns-clause-found : goal.returns-clause-found
returns-clause-found c =
    if_some (MapsTo c.self.inside.index c.args.key.now) (IsAt c.args.self.now c.args.key.now) c.get.result
    (λ handle maps. subst (λ (x : Stock). IsAt x c.args.key.now handle) c.self.view_is (found c.self.inside.entries c.self.inside.index c.self.inside.order c.self.inside.rows c.self.invariant.0 (base_shown c.self.inside.entries c.self.inside.index c.self.inside.rows c.self.inside.images) c.args.key.now handle maps)) c.get.ensures.found

pub returns-clause-absent : goal.returns-clause-absent
returns-clause-absent c =
    if_none _ (IsAbsent c.args.self.now c.args.key.now) c.get.result
    (λ none. subst (λ (x : Stock). IsAbsent x c.args.key.now) c.self.view_is (absent c.self.inside.entries c.self.inside.index c.self.inside.order c.self.inside.rows c.self.invariant.0 (base_shown c.self.inside.entries c.self.inside.index c.self.inside.rows c.self.inside.images) c.args.key.now none)) c.get.ensures.absent
