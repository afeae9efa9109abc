use Rattle.std.proofs.Common.{◌≡◌, ◌++◌, List, length, take, drop, slice_set, subst, sym, arith}
use Rattle.std.proofs.lemmas.Grind.{common_steps}
use Rattle.shard_book.specs.BooksState.{BooksState}
use Rattle.shard_book.specs.declared.named.Named.{Named}
use Rattle.admit_world.specs.WorldCode.{StandsFor, world_view}
use Rattle.admit_world.specs.declared.visitor.Visitor.{Visitor}
use Rattle.admit_world.specs.declared.visit.Visit.{Visit}
use Rattle.admit_world.proofs.RunLemmas.{covered_is, none_given, tables_are, went}
use Rattle.admit_world.proofs.world.go_on.Goals as goal

pub wake-requires : goal.wake-requires
wake-requires g c =
    none_given c.args.setup.now c.args.tables.now.items c.args.visitors.now.items c.requires.reached c.args.number c.requires.number c.index_mut-visitor.result.now c.index_mut-visitor.ensures.value

pub advance-requires-clause-tables : goal.advance-requires-clause-tables
advance-requires-clause-tables g c =
    tables_are c.args.setup.now c.args.tables.now.items c.args.visitors.now.items c.requires.reached c.args.number c.requires.number c.index_mut-visitor.result.now c.index_mut-visitor.ensures.value c.wake.new.visitor.conn c.as_mut_slice.result.now c.wake.ensures.stands c.as_mut_slice.ensures.value

pub advance-requires-clause-covered : goal.advance-requires-clause-covered
advance-requires-clause-covered g c =
    covered_is c.args.setup.now c.args.tables.now.items c.args.visitors.now.items c.requires.reached c.args.number c.requires.number c.index_mut-visitor.result.now c.index_mut-visitor.ensures.value c.wake.new.visitor.conn c.as_mut_slice.result.now c.wake.ensures.stands c.as_mut_slice.ensures.value

pub returns-clause-went : goal.returns-clause-went
returns-clause-went g c visits state stands =
    let tables = c.advance.new.tables in
    let visitor = c.index_mut-visitor.result.now in
    let refilled : take c.args.tables.now.len (tables ++ drop (length tables) c.args.tables.now.items) ≡ tables = grind (arith, common_steps) in
    let one = went c.args.setup.now c.args.tables.now.items c.as_mut_slice.result.now tables c.args.visitors.now.items c.args.number c.args.moment visitor c.wake.new.visitor.conn c.advance.new.conn c.advance.result c.requires.number c.index_mut-visitor.ensures.value
    c.wake.ensures.stands c.as_mut_slice.ensures.value c.advance.ensures.moved visits state stands in
    let visitors : Visit → List Visitor = λ visit. slice_set c.args.visitors.now.items c.args.number (record { visit = visit; conn = c.advance.new.conn }) in (
      one.0,
      subst (λ (ts : List (Named BooksState)). StandsFor (world_view c.args.setup.now ts (visitors c.wake.new.visitor.visit)) visits one.0) (sym refilled) (subst (λ (visit : Visit). StandsFor (world_view c.args.setup.now tables (visitors visit)) visits one.0) (sym c.wake.ensures.visit) one.1),
      one.2,
    )
