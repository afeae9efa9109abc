use Rattle.std.proofs.Common.{◌≡◌, ◌≤◌, List, take, drop, length, vec_len, vec_capacity}
use Rattle.stick_model.specs.State.{State}
use Rattle.stick_model.specs.Run.{LastingRun, CanRedoAll, redone_all}
use Rattle.stick_model.specs.declared.replies.Reply.{Reply}
use Rattle.stick_table.proofs.redoing.redo_all.Given as goal

abbrev pub invariant-loop-call : goal.invariant-loop-call
invariant-loop-call l = record {
  done : redone_all l.fn.table.now (take l.call-index l.calls) ≡ (l.replies.items, l.table.now);
  slots : CanRedoAll l.table.now (drop l.call-index l.calls);
  lasts : (replies : List Reply) (new : State) → LastingRun l.fn.table.now l.calls replies new → (rest : List Reply) × LastingRun l.table.now (drop l.call-index l.calls) rest new;
  base : l.table.base ≡ l.fn.table.base;
  used : vec_len l.replies ≡ l.call-index;
  room : length l.calls ≤ vec_capacity l.replies;
}
