use Rattle.std.proofs.Common.{◌≡◌, ◌≤◌, length}
use Rattle.table_cli.specs.Answers.{HeadsOf}
use Rattle.shard_book.specs.NamedTables.{states_of}
use Rattle.table_cli.proofs.tables.show_tables.Given as goal

-- the tables at the first places said their headers
abbrev pub invariant-loop-place : goal.invariant-loop-place
invariant-loop-place g l =
    let K = g.K.Keeper in
    record {
      heads : HeadsOf K.answers K.refuses l.moment l.place (states_of K.table K.parts K.state l.fn.tables) l.text.items (states_of K.table K.parts K.state l.tables);
      size : length l.tables ≡ length l.fn.tables;
      within : l.place ≤ length l.fn.tables;
      end : l.place-end ≡ length l.fn.tables;
    }
