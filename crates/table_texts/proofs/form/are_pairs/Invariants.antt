use Rattle.std.proofs.Common.{◌≡◌, length}
use Rattle.base_lines.specs.Words.{words_left}
use Rattle.table_texts.specs.Form.{are_pairs}
use Rattle.table_texts.specs.Seen.{words_of}
use Rattle.table_texts.proofs.form.are_pairs.Given as goal

abbrev pub invariant-loop-word : goal.invariant-loop-word
invariant-loop-word l = are_pairs (words_left l.words) ≡ are_pairs (words_of l.text)

abbrev pub decreases-loop-word : goal.decreases-loop-word
decreases-loop-word l = length (words_left l.words)
