use Rattle.std.proofs.Common.{sym, ap, ◌∙◌}
use Rattle.std.proofs.lemmas.Bool.{eqb-true, eq-eqb}
use Rattle.key_index.specs.Sip.{word_of}
use Rattle.key_index.proofs.WordLemmas.{same_of_16}
use Rattle.key_index.proofs.words.is_same_16.Goals as goal

pub returns-then-word : goal.returns-then-word
returns-then-word c =
    let xs = c.args.bytes.now in let ys = c.args.others.now in
    let low = sym c.word.ensures ∙ c.if-word.true ∙ c.word-2.ensures in (
      (λ same. same_of_16 xs ys (λ i. (c.type_inv.bytes i).fits) (λ i. (c.type_inv.others i).fits) c.requires.0 c.requires.1 low (sym c.word-then-word.ensures ∙ eqb-true _ _ same ∙ c.word-then-word-2.ensures)),
      (λ same. eq-eqb _ _ (c.word-then-word.ensures ∙ ap (λ zs. word_of zs 8) same ∙ sym c.word-then-word-2.ensures)),
    )
