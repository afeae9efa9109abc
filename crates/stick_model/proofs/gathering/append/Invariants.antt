use Rattle.std.proofs.Common.{◌≡◌, ◌+◌, ◌≤◌, ◌++◌, length, take, vec_len, vec_capacity}
use Rattle.stick_model.proofs.gathering.append.Given as goal

abbrev pub invariant-loop-item : goal.invariant-loop-item
invariant-loop-item g l = record {
  done : l.list.items ≡ l.fn.list.items ++ take l.item-index l.more;
  used : vec_len l.list ≡ vec_len l.fn.list + l.item-index;
  same : vec_capacity l.list ≡ vec_capacity l.fn.list;
  room : vec_len l.fn.list + length l.more ≤ vec_capacity l.fn.list;
}
