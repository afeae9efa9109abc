use Rattle.std.proofs.Common.{◌∙◌, length, ap, arith, rules}
use Rattle.base_lines.specs.Words.{words_left}
use Rattle.rule_words.proofs.ConditionLemmas.{conjoined, conjoined-none, conjoined-term, conjoined-refused}
use Rattle.rule_words.proofs.SentenceLemmas.{term_of-shorter}
use Rattle.rule_words.proofs.conditions.read_conjunction.Goals as goal

pub loop-word-init : goal.loop-word-init
loop-word-init c = record {
  gives = ap (λ terms. conjoined c.args.section.now c.args.acls.now terms (words_left c.args.words.now)) c.new-terms.ensures ∙ conjoined-none c.args.section.now c.args.acls.now (words_left c.args.words.now);
  shorter = omega arith;
}

pub returns-in_err-term-clause-begins : goal.returns-in_err-term-clause-begins
returns-in_err-term-clause-begins c =
    conjoined-refused c.args.section.now c.args.acls.now c.loop-word.terms c.in-Some.word.now (words_left c.loop-word.words) (words_left c.next.new.self) _ (words_left c.args.words.now)
    c.in_err-term.field-0.0 c.from_residual.result c.in-Some.ensures.word (search rules) c.in_err-term.ensures c.loop-word.invariant.gives c.from_residual.ensures.1

pub loop-word-smaller : goal.loop-word-smaller
loop-word-smaller c =
    let shorter = term_of-shorter _ _ _ _ _ _ c.in_ok-term.ensures in
    omega (arith, shorter, ap length c.in-Some.ensures.word)

pub loop-word-preserved : goal.loop-word-preserved
loop-word-preserved c =
    let shorter = term_of-shorter _ _ _ _ _ _ c.in_ok-term.ensures in record {
      gives = conjoined-term _ _ _ _ _ _ _ _ _ c.in-Some.ensures.word (search rules) c.in_ok-term.ensures c.in_ok-push.ensures.ok ∙ c.loop-word.invariant.gives;
      shorter = omega (arith, shorter, ap length c.in-Some.ensures.word, c.loop-word.invariant.shorter);
    }
