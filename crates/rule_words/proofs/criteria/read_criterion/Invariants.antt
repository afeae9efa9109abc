use Rattle.std.proofs.Common.{◌≡◌, length}
use Rattle.std.specs.Prelude.{ok_or}
use Rattle.base_lines.specs.Words.{words_left}
use Rattle.rule_model.specs.declared.faults.Fault.TheVariants.{BadCondition}
use Rattle.rule_words.specs.Conditions.{criterion_of}
use Rattle.rule_words.specs.Drafts.{finished}
use Rattle.rule_words.proofs.criteria.read_criterion.Given as goal

-- the draft and the words that are left give what all words give
abbrev pub invariant-loop-word : goal.invariant-loop-word
invariant-loop-word l = ok_or (finished l.draft (words_left l.words)) BadCondition ≡ criterion_of l.section (words_left l.fn.words)

abbrev pub decreases-loop-word : goal.decreases-loop-word
decreases-loop-word l = length (words_left l.words)
