use Rattle.std.proofs.Common.{◌≡◌, List, map, subst, refl, sym, arith, take}
use Rattle.std.proofs.lemmas.List.{take_all, take_more}
use Rattle.admit_world.specs.WorldCode.{AreVisitors, world_view}
use Rattle.admit_world.specs.declared.visit.Visit.{Visit}
use Rattle.admit_world.proofs.ScheduleLemmas.{begun_reached, begun_stands, come, visitors_length, visitors_more}
use Rattle.admit_world.proofs.world.World.new.Goals as goal

pub loop-visit-preserved : goal.loop-visit-preserved
loop-visit-preserved g c =
    visitors_more c.args.setup.now c.args.visits.now c.loop-visit.visit-index c.loop-visit.visitors.items c.push.new.self.items _ _ c.loop-visit.invariant (take_more c.args.visits.now c.loop-visit.visit-index _ c.loop-visit-test.true) c.in_ok-push.ensures.items refl c.new.ensures.stands

pub invariant_of-result : goal.invariant_of-result
invariant_of-result g c =
    let setup = c.args.setup.now in
    let all : take c.loop-visit.visit-index c.args.visits.now ≡ c.args.visits.now = take_all c.loop-visit.visit-index c.args.visits.now (omega (arith, c.loop-visit-test.false)) in
    let visitors = subst (λ (vs : List Visit). AreVisitors c.loop-visit.visitors.items vs (map (come setup) vs)) all c.loop-visit.invariant in
    begun_reached (world_view setup c.in_ok-tables.tables.items c.loop-visit.visitors.items) c.args.visits.now c.requires (begun_stands setup c.args.visits.now c.in_ok-tables.tables.items c.loop-visit.visitors.items (c.in_ok-tables.ensures.opened) visitors)

pub returns-clause-count : goal.returns-clause-count
returns-clause-count g c =
    let setup = c.args.setup.now in
    let all : take c.loop-visit.visit-index c.args.visits.now ≡ c.args.visits.now = take_all c.loop-visit.visit-index c.args.visits.now (omega (arith, c.loop-visit-test.false)) in
    sym (visitors_length c.loop-visit.visitors.items c.args.visits.now (map (come setup) c.args.visits.now) (subst (λ (vs : List Visit). AreVisitors c.loop-visit.visitors.items vs (map (come setup) vs)) all c.loop-visit.invariant))
