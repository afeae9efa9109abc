-- Texts that grow by several pieces.
use Rattle.std.proofs.Common.{◌≡◌, List, ◌++◌, arith}
use Rattle.std.proofs.lemmas.Grind.{common_steps}

pub joined_five : {X : Type 0} (text a b c d e one two three four five : List X) → one ≡ text ++ a → two ≡ one ++ b → three ≡ two ++ c → four ≡ three ++ d → five ≡ four ++ e → five ≡ text ++ (a ++ b ++ c ++ d ++ e)
joined_five text a b c d e one two three four five first second third fourth fifth = grind (arith, common_steps)

pub joined_three : {X : Type 0} (text a b c one two three : List X) → one ≡ text ++ a → two ≡ one ++ b → three ≡ two ++ c → three ≡ text ++ (a ++ b ++ c)
joined_three text a b c one two three first second third = grind (arith, common_steps)
