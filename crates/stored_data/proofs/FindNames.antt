-- A datum is found by its name, and no two have one.
use Rattle.std.proofs.Common.{◌≡◌, ◌≢◌, ℕ, suc, ◌+◌, ◌<◌, Bool, true, false, cond, Some, None, List, [], ◌∷◌, arith, length, get_or, drop, refl, sym, ap, ◌∙◌}
use Rattle.std.specs.List.{find}
use Rattle.std.specs.Str.{bytes_eq}
use Rattle.std.specs.Bool.{Decides}
use Rattle.std.proofs.Math.Seq.{drop-cons}
use Rattle.std.proofs.lemmas.Slice.Eq.{bytes_eq-Decides}
use Rattle.stored_data.specs.Data.{all_data, name}
use Rattle.stored_data.specs.Names.{datum_of}
use Rattle.stored_data.specs.Laws.{NamesDiffer}
use Rattle.stored_data.specs.declared.datum.Datum.{Datum}
use Rattle.stored_data.specs.declared.datum.Datum.TheVariants.{Gpt0}

-- a datum is that of its name
datum_of-name : (datum : Datum) → datum_of (name datum) ≡ Some datum
unfolding datum_of
datum_of-name Gpt0 = refl
datum_of-name _ = refl

pub names_differ : NamesDiffer
names_differ datum other same = let found : Some datum ≡ Some other = sym (datum_of-name datum) ∙ ap datum_of same ∙ datum_of-name other in cc

-- the same of a text that is the name
pub datum_of-named : (text : List ℕ) (datum : Datum) → text ≡ name datum → datum_of text ≡ Some datum
datum_of-named text datum h = ap datum_of h ∙ datum_of-name datum

find-none : {X : Type 0} (p : X → Bool) (xs : List X) → ((x : X) → p x ≡ false) → find p xs ≡ None
find-none p [] h = refl
find-none p (x ∷ xs) h = ap (λ b. cond b (Some x) (find p xs)) (h x) ∙ find-none p xs h

other_name : (text : List ℕ) (datum : Datum) → text ≢ name datum → bytes_eq (name datum) text ≡ false
other_name text datum h =
    elim (bytes_eq (name datum) text) as (λ b. Decides b (name datum ≡ text) → b ≡ false) [
      | true ↦ λ d. absurd (h (sym (d.0 refl)))
      | false ↦ λ d. refl
    ] (bytes_eq-Decides (name datum) text)

-- what is no datum's name has none
pub datum_of-none : (text : List ℕ) → ((datum : Datum) → text ≢ name datum) → datum_of text ≡ None
unfolding datum_of
datum_of-none text h = find-none (λ datum. bytes_eq (name datum) text) all_data (λ datum. other_name text datum (h datum))

-- where the next one isn't it, what is found among the others is found among all that are left
pub find-drop : {X : Type 0} (p : X → Bool) (xs : List X) (i : ℕ) (d : X) → i < length xs → p (get_or xs i d) ≡ false → find p (drop (i + 1) xs) ≡ find p (drop i xs)
find-drop p xs i d inside fails =
    let next : i + 1 ≡ suc i = omega arith in
    ap (λ n. find p (drop n xs)) next ∙ sym (ap (find p) (drop-cons xs i d inside) ∙ ap (λ b. cond b (Some (get_or xs i d)) (find p (drop (suc i) xs))) fails)
