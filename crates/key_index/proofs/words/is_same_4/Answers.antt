use Rattle.std.proofs.Common.{sym, ap, ◌∙◌}
use Rattle.std.proofs.lemmas.Bool.{eqb-true, eq-eqb}
use Rattle.key_index.specs.Sip.{half_of}
use Rattle.key_index.proofs.WordLemmas.{same_of_4}
use Rattle.key_index.proofs.words.is_same_4.Goals as goal

pub returns : goal.returns
returns c =
    let xs = c.args.bytes.now in let ys = c.args.others.now in (
      (λ same. same_of_4 xs ys (λ i. (c.type_inv.bytes i).fits) (λ i. (c.type_inv.others i).fits) c.requires.0 c.requires.1 (sym c.half_word.ensures ∙ eqb-true _ _ same ∙ c.half_word-2.ensures)),
      (λ same. eq-eqb _ _ (c.half_word.ensures ∙ ap (λ zs. half_of zs 0) same ∙ sym c.half_word-2.ensures)),
    )
