use Rattle.std.proofs.Common.{◌≡◌, ◌≤◌, ◌<◌, ◌∙◌, ap, rules, subst, ◌+◌, ◌*◌, List, get_or, length, take, arith}
use Rattle.std.proofs.lemmas.List.{take_all}
use Rattle.rule_model.specs.declared.sections.NamedSpec.{NamedSpec}
use Rattle.tcp_proxy.specs.Opened.{AreDeclared}
use Rattle.tcp_proxy.proofs.OpenLemmas.{dealt_more, declared_more, declared_served, left_for_one, one_more, seats_more, table_parts}
use Rattle.tcp_proxy.proofs.opening.open_tables.Goals as goal

pub loop-table-preserved : goal.loop-table-preserved
loop-table-preserved g c =
    let were = c.loop-table.invariant in
    let items = c.args.setup.now.tables in
    let within : c.loop-table.table < length items = omega (arith, c.loop-table-test.true, ap length c.as_slice-tables.ensures) in
    let named : c.index-tables-table.result ≡ get_or items c.loop-table.table c.index-tables-table.result = c.index-tables-table.is ∙ ap (λ (them : List NamedSpec). get_or them c.loop-table.table c.index-tables-table.result) c.as_slice-tables.ensures in (
      declared_more c.args.setup.now.shards c.args.keep items c.loop-table.table c.index-tables-table.result c.loop-table.opened.tables.items c.add.new.self.tables.items c.in_ok-one.one.table
          were.0 within named c.in_ok-one.ensures.table c.in_ok-add.ensures.tables,
      one_more c.loop-table.opened.workers.items c.add.new.self.workers.items c.in_ok-one.one.workers c.loop-table.table were.1 c.in_ok-add.ensures.workers,
      seats_more c.loop-table.opened.workers.items c.add.new.self.workers.items c.in_ok-one.one.workers c.args.workers were.2 c.in_ok-one.ensures.workers c.in_ok-add.ensures.workers,
      one_more c.loop-table.opened.commands.items c.add.new.self.commands.items c.in_ok-one.one.commands c.loop-table.table were.3 c.in_ok-add.ensures.commands,
      seats_more c.loop-table.opened.commands.items c.add.new.self.commands.items c.in_ok-one.one.commands c.args.clients were.4 c.in_ok-one.ensures.commands c.in_ok-add.ensures.commands,
      one_more c.loop-table.opened.keepers.items c.add.new.self.keepers.items c.in_ok-one.one.keeper c.loop-table.table were.5 c.in_ok-add.ensures.keepers,
      dealt_more c.args.dealer.now c.loop-table.dealer c.open_table.new.dealer c.args.setup.now.shards (c.args.workers + c.args.clients + 1) c.loop-table.table were.6 c.in_ok-one.ensures.dealt,
    )

pub open_table-requires-clause-left : goal.open_table-requires-clause-left
open_table-requires-clause-left g c =
    left_for_one c.args.dealer.now c.loop-table.dealer c.args.setup.now.shards (c.args.workers + c.args.clients + 1) c.loop-table.table (length c.args.setup.now.tables)
    (omega (arith, c.loop-table-test.true, ap length c.as_slice-tables.ensures)) c.requires.left c.loop-table.invariant.6

pub open_table-requires-clause-parts : goal.open_table-requires-clause-parts
open_table-requires-clause-parts g c =
    let items = c.args.setup.now.tables in
    let within : c.loop-table.table < length items = omega (arith, c.loop-table-test.true, ap length c.as_slice-tables.ensures) in
    let named : c.index-tables-table.result ≡ get_or items c.loop-table.table c.index-tables-table.result = c.index-tables-table.is ∙ ap (λ (them : List NamedSpec). get_or them c.loop-table.table c.index-tables-table.result) c.as_slice-tables.ensures in
    let none : 0 + c.args.setup.now.shards * c.loop-table.table ≡ c.args.setup.now.shards * c.loop-table.table = omega arith in
    let begins : c.loop-table.dealer.kept ≡ c.args.setup.now.shards * c.loop-table.table =
    ap (λ d. d.kept) c.loop-table.invariant.6 ∙ ap (λ n. n + c.args.setup.now.shards * c.loop-table.table) c.requires.first ∙ none in
    table_parts c.args.setup.now c.args.seeds.now g.J.Naming.specs c.loop-table.dealer.kept c.loop-table.table _ c.index-tables-table.result c.requires.specs begins within c.requires.seeds named (search rules)

pub returns-clause-served : goal.returns-clause-served
returns-clause-served g c =
    let items = c.args.setup.now.tables in
    let through : length items ≤ c.loop-table.table = omega (arith, c.loop-table-test.false, ap length c.as_slice-tables.ensures) in
    let all : take c.loop-table.table items ≡ items = take_all c.loop-table.table items through in
    declared_served c.args.setup.now c.args.keep c.loop-table.opened.tables.items
    (subst (λ (named : List NamedSpec). AreDeclared c.args.setup.now.shards c.args.keep named c.loop-table.opened.tables.items) all c.loop-table.invariant.0)
