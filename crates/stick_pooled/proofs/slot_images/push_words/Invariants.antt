use Rattle.std.proofs.Common.{◌≡◌, ◌+◌, ◌≤◌, ◌++◌, length, take, vec_len, vec_capacity}
use Rattle.stick_pooled.proofs.slot_images.push_words.Given as goal

abbrev pub invariant-loop-word : goal.invariant-loop-word
invariant-loop-word l = record {
  done : l.words.items ≡ l.fn.words.items ++ take l.word-index l.more;
  used : vec_len l.words ≡ vec_len l.fn.words + l.word-index;
  same : vec_capacity l.words ≡ vec_capacity l.fn.words;
  room : vec_len l.fn.words + length l.more ≤ vec_capacity l.fn.words;
}
