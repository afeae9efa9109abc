-- The parts of a list that grows at its end.
use Rattle.std.proofs.Common.{◌≡◌, ◌≤◌, ◌+◌, ℕ, length, arith, Bool, true, false, cond, List, [], ◌∷◌, ◌++◌, refl, sym, ap, ◌∙◌, append-nil, append_assoc}
use Rattle.std.specs.List.{slice_split, onto_first, join_with_byte}
use Rattle.std.proofs.lemmas.List.Splits.{join_with_byte-slice_split}
use Rattle.base_lines.specs.Parts.{parts, first_part, other_parts, is_byte}

-- these parts, and the last one
abbrev pub EndsIn : (ℕ → Bool) → List ℕ → List (List ℕ) → List ℕ → Type 0
EndsIn p bytes done last = parts p bytes ≡ done ++ last ∷ []

-- from parts F ∷ O that grow to F' ∷ O', behind a part that is empty
behind_empty : (F F' s : List ℕ) (O O' T : List (List ℕ)) → ((done : List (List ℕ)) (last : List ℕ) → F ∷ O ≡ done ++ last ∷ [] → F' ∷ O' ≡ done ++ (last ++ s) ∷ T)
    → (done : List (List ℕ)) (last : List ℕ) → [] ∷ F ∷ O ≡ done ++ last ∷ [] → [] ∷ F' ∷ O' ≡ done ++ (last ++ s) ∷ T
behind_empty F F' s O O' T grows [] last e = cc
behind_empty F F' s O O' T grows (d ∷ ds) last e =
    let behind : F ∷ O ≡ ds ++ last ∷ [] = cc in
    let grown = grows ds last behind in
    cc

-- the same with an item more in front
with_item : (x : ℕ) (F F' s : List ℕ) (O O' T : List (List ℕ)) → ((done : List (List ℕ)) (last : List ℕ) → F ∷ O ≡ done ++ last ∷ [] → F' ∷ O' ≡ done ++ (last ++ s) ∷ T)
    → (done : List (List ℕ)) (last : List ℕ) → (x ∷ F) ∷ O ≡ done ++ last ∷ [] → (x ∷ F') ∷ O' ≡ done ++ (last ++ s) ∷ T
with_item x F F' s O O' T grows [] last e =
    let alone : F ∷ O ≡ F ∷ [] = cc in
    let grown : F' ∷ O' ≡ (F ++ s) ∷ T = grows [] F alone in
    let is : last ≡ x ∷ F = cc in
    let part : F' ≡ F ++ s = cc in
    ap (λ l. (x ∷ l) ∷ O') part ∙ ap (λ l. (x ∷ (F ++ s)) ∷ l) (cc) ∙ ap (λ l. (l ++ s) ∷ T) (sym is)
with_item x F F' s O O' T grows (d ∷ ds) last e =
    let behind : F ∷ O ≡ F ∷ (ds ++ last ∷ []) = cc in
    let grown : F' ∷ O' ≡ F ∷ (ds ++ (last ++ s) ∷ T) = grows (F ∷ ds) last behind in
    cc

-- the first part of what follows goes onto the last part
pub parts_join : (p : ℕ → Bool) (xs ys s : List ℕ) (T : List (List ℕ)) → parts p ys ≡ s ∷ T → (done : List (List ℕ)) (last : List ℕ) → EndsIn p xs done last → parts p (xs ++ ys) ≡ done ++ (last ++ s) ∷ T
parts_join p [] ys s T is [] last e = let none : [] ≡ last = cc in is ∙ ap (λ l. (l ++ s) ∷ T) none
parts_join p [] ys s T is (d ∷ []) last e = cc
parts_join p [] ys s T is (d ∷ d' ∷ ds) last e = cc
parts_join p (x ∷ xs) ys s T is done last e =
    let before = first_part p xs in
    let after = first_part p (xs ++ ys) in
    let old = other_parts p xs in
    let new = other_parts p (xs ++ ys) in
    let G : Bool → Type 0 = λ v. cond v [] (x ∷ before) ∷ cond v (before ∷ old) old ≡ done ++ last ∷ [] → cond v [] (x ∷ after) ∷ cond v (after ∷ new) new ≡ done ++ (last ++ s) ∷ T in
    elim (p x) as G [
      | true ↦ behind_empty before after s old new T (parts_join p xs ys s T is) done last
      | false ↦ with_item x before after s old new T (parts_join p xs ys s T is) done last
    ] e

-- behind a parting item the parts are those of what follows
pub parts_at : (p : ℕ → Bool) (xs : List ℕ) (b : ℕ) (ys : List ℕ) (done : List (List ℕ)) (last : List ℕ) → p b ≡ true → EndsIn p xs done last → parts p (xs ++ b ∷ ys) ≡ done ++ last ∷ parts p ys
parts_at p xs b ys done last h e =
    parts_join p xs (b ∷ ys) [] (parts p ys) (ap (λ v. cond v [] (b ∷ first_part p ys) ∷ cond v (first_part p ys ∷ other_parts p ys) (other_parts p ys)) h) done last e
    ∙ ap (λ l. done ++ l ∷ parts p ys) (append-nil last)

-- a parting item ends the last part
pub parts_ended : (p : ℕ → Bool) (xs : List ℕ) (b : ℕ) (done : List (List ℕ)) (last : List ℕ) → p b ≡ true → EndsIn p xs done last → EndsIn p (xs ++ b ∷ []) (done ++ last ∷ []) []
parts_ended p xs b done last h e = parts_at p xs b [] done last h e ∙ sym (append_assoc done (last ∷ []) ([] ∷ []))

-- another item goes onto the last part
pub parts_longer : (p : ℕ → Bool) (xs : List ℕ) (b : ℕ) (done : List (List ℕ)) (last : List ℕ) → p b ≡ false → EndsIn p xs done last → EndsIn p (xs ++ b ∷ []) done (last ++ b ∷ [])
parts_longer p xs b done last h e = parts_join p xs (b ∷ []) (b ∷ []) [] (ap (λ v. cond v [] (b ∷ []) ∷ cond v ([] ∷ []) []) h) done last e

-- no more parts than there are bytes, and one
pub length-other_parts-le : (p : ℕ → Bool) (bytes : List ℕ) → length (other_parts p bytes) ≤ length bytes
length-other_parts-le p [] = omega arith
length-other_parts-le p (b ∷ bs) =
    let rest = length-other_parts-le p bs in
    let P : Bool → Type 0 = λ v. length (cond v (first_part p bs ∷ other_parts p bs) (other_parts p bs)) ≤ length (b ∷ bs) in
    elim (p b) as P [ true ↦ omega arith | false ↦ omega arith ]

pub few_parts : (p : ℕ → Bool) (bytes : List ℕ) → length (parts p bytes) ≤ length bytes + 1
few_parts p bytes = omega (arith, length-other_parts-le p bytes)

one_more : (split : Bool) (b : ℕ) (bs first : List ℕ) (others : List (List ℕ)) → cond split [] (b ∷ first) ∷ cond split (first ∷ others) others ≡ cond split ([] ∷ first ∷ others) (onto_first b (first ∷ others))
one_more true b bs first others = refl
one_more false b bs first others = refl

-- the parts are those of std's split
pub parts-is_split : (p : ℕ → Bool) (bytes : List ℕ) → parts p bytes ≡ slice_split p bytes
parts-is_split p [] = refl
parts-is_split p (b ∷ bs) =
    one_more (p b) b bs (first_part p bs) (other_parts p bs)
    ∙ ap (λ l. cond (p b) ([] ∷ l) (onto_first b l)) (parts-is_split p bs)

-- joined by the byte that parted them, they are the whole
pub join_with_byte-parts : (separator : ℕ) (bytes : List ℕ) → join_with_byte separator (parts (is_byte separator) bytes) ≡ bytes
join_with_byte-parts separator bytes =
    ap (join_with_byte separator) (parts-is_split (is_byte separator) bytes) ∙ join_with_byte-slice_split separator bytes
