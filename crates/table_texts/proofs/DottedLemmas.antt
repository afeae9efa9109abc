-- The text of an IPv4 address, written group by group.
use Rattle.std.proofs.Common.{◌≡◌, ℕ, List, [], ◌∷◌, ◌++◌, length, get_or, arith, ap, ◌∙◌, append_assoc}
use Rattle.std.specs.Fmt.{decimal}
use Rattle.stick_key.specs.Dotted.{dotted}

-- a text, a group, a dot, and what comes then
group : (text part rest : List ℕ) → ((text ++ part) ++ 46 ∷ []) ++ rest ≡ text ++ (part ++ 46 ∷ rest)
group text part rest = append_assoc (text ++ part) (46 ∷ []) rest ∙ append_assoc text part (46 ∷ rest)

-- four groups behind a text, and a dot between each two
four_groups : (text address : List ℕ) → length address ≡ 4
    → ((((((text ++ decimal (get_or address 0 0)) ++ 46 ∷ []) ++ decimal (get_or address 1 0)) ++ 46 ∷ []) ++ decimal (get_or address 2 0)) ++ 46 ∷ []) ++ decimal (get_or address 3 0) ≡ text ++ dotted address
four_groups text [] four = absurd (omega (arith, four))
four_groups text (a ∷ []) four = absurd (omega (arith, four))
four_groups text (a ∷ b ∷ []) four = absurd (omega (arith, four))
four_groups text (a ∷ b ∷ c ∷ []) four = absurd (omega (arith, four))
four_groups text (a ∷ b ∷ c ∷ d ∷ []) four =
    group ((((text ++ decimal a) ++ 46 ∷ []) ++ decimal b) ++ 46 ∷ []) (decimal c) (decimal d)
    ∙ group ((text ++ decimal a) ++ 46 ∷ []) (decimal b) (decimal c ++ 46 ∷ decimal d)
    ∙ group text (decimal a) (decimal b ++ 46 ∷ (decimal c ++ 46 ∷ decimal d))
four_groups text (a ∷ b ∷ c ∷ d ∷ e ∷ rest) four = absurd (omega (arith, four))

-- what is written step by step
pub written : (text address t1 t2 t3 t4 t5 t6 t7 : List ℕ) (a b c d : ℕ) → length address ≡ 4
    → a ≡ get_or address 0 0 → b ≡ get_or address 1 0 → c ≡ get_or address 2 0 → d ≡ get_or address 3 0
    → t1 ≡ text ++ decimal a → t2 ≡ t1 ++ 46 ∷ [] → t3 ≡ t2 ++ decimal b → t4 ≡ t3 ++ 46 ∷ [] → t5 ≡ t4 ++ decimal c → t6 ≡ t5 ++ 46 ∷ [] → t7 ≡ t6 ++ decimal d
    → t7 ≡ text ++ dotted address
written text address t1 t2 t3 t4 t5 t6 t7 a b c d four is_a is_b is_c is_d one dot_1 two dot_2 three dot_3 last =
    let dot = λ (text : List ℕ). text ++ 46 ∷ [] in
    let then = λ (n : ℕ) (text : List ℕ). text ++ decimal n in
    last ∙ ap (then d) (dot_3 ∙ ap dot (three ∙ ap (then c) (dot_2 ∙ ap dot (two ∙ ap (then b) (dot_1 ∙ ap dot one)))))
    ∙ (λ i. ((((((text ++ decimal (is_a i)) ++ 46 ∷ []) ++ decimal (is_b i)) ++ 46 ∷ []) ++ decimal (is_c i)) ++ 46 ∷ []) ++ decimal (is_d i))
    ∙ four_groups text address four
