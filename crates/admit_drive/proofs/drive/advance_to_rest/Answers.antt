use Rattle.std.proofs.Common.{◌∙◌, sym}
use Rattle.admit_drive.specs.Tables.{table_states}
use Rattle.admit_drive.proofs.RestLemmas.{gone_more, gone_to_rest, ready_moved}
use Rattle.admit_drive.proofs.drive.advance_to_rest.Goals as goal

pub loop-alloc-preserved : goal.loop-alloc-preserved
loop-alloc-preserved g c =
    let before = c.loop-alloc.invariant in
    let old = table_states c.loop-alloc.tables in
    let new = table_states c.advance-refused.new.tables in
    let next = ready_moved c.args.moment old new c.loop-alloc.conn c.advance-refused.new.conn c.advance-refused.result c.requires.moment before.ready c.advance-refused.ensures.moved in
    record {
      given = c.advance-refused.ensures.given;
      ready = next.0;
      setup = next.1 ∙ before.setup;
      gone = gone_more c.args.moment (table_states c.args.tables.now) old new c.args.conn.now c.loop-alloc.conn c.advance-refused.new.conn c.advance-refused.result before.gone c.advance-refused.ensures.moved;
    }

pub returns-clause-rested : goal.returns-clause-rested
returns-clause-rested g c =
    gone_to_rest c.args.moment (table_states c.args.tables.now) (table_states c.loop-alloc.tables) c.args.conn.now c.loop-alloc.conn (sym c.is_still.ensures ∙ c.loop-alloc-test.false) c.loop-alloc.invariant.gone
