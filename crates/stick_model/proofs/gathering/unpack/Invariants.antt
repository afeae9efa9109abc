use Rattle.std.proofs.Common.{◌≡◌, ◌++◌, drop}
use Rattle.stored_data.specs.Words.{width}
use Rattle.stick_model.specs.Gathered.{AreCut, rows_in}
use Rattle.stick_model.proofs.gathering.unpack.Given as goal

-- the rows so far, and those to come
abbrev pub invariant-loop-head : goal.invariant-loop-head
invariant-loop-head l = record {
  rows : l.rows.items ++ rows_in l.columns l.clock (drop l.head-index l.heads) l.keys_left l.words_left ≡ l.fn.rows.items ++ rows_in l.columns l.clock l.heads l.bytes l.words;
  cut : AreCut (width l.columns) (drop l.head-index l.heads) l.keys_left l.words_left;
}
