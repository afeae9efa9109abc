use Rattle.std.proofs.Common.{◌≡◌, ◌<◌, ◌∙◌, List, ◌∷◌, length, ap, arith}
use Rattle.rule_words.specs.Table.{pairs_of}
use Rattle.rule_words.proofs.table.Settings.set_all.Goals as goal

fewer : {A : Type 0} (x : A) (old new : List A) → old ≡ x ∷ new → length new < length old
fewer x old new e = omega (arith, ap length e)

pub loop-keyword-smaller : goal.loop-keyword-smaller
loop-keyword-smaller c = fewer _ _ _ (ap pairs_of c.in-Some.ensures.word ∙ c.take_value-value.ensures)
