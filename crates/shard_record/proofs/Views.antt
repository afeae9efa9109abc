-- Views, book by book.
use Rattle.std.proofs.Common.{◌≡◌, ◌≢◌, ℕ, zero, suc, List, [], ◌∷◌, map, refl, sym, ap, ◌∙◌, arith}
use Rattle.std.proofs.lemmas.List.{append-nil}
use mathlib.Core.Option.{some, some-ne-none, some-injective}
use lib.ListN.{get_elem?}
use Rattle.shard_record.specs.declared.view.Part.{Part}
use Rattle.shard_record.specs.Parts.{compared, joined, nobody}
use Rattle.shard_record.specs.Views.{View, at, only, paired, put}
use Rattle.shard_record.specs.Telling.{IsSettled}
use Rattle.shard_record.proofs.Moves.{longer_whole}

pub at_put : (book : ℕ) (part : Part) (view : View) → at book (put book part view) ≡ part
at_put zero part [] = refl
at_put zero part (p ∷ view) = refl
at_put (suc book) part [] = at_put book part []
at_put (suc book) part (p ∷ view) = at_put book part view

pub at_put_else : (book other : ℕ) (part : Part) (view : View) → other ≢ book → at other (put book part view) ≡ at other view
at_put_else zero zero part view apart = absurd (apart refl)
at_put_else zero (suc other) part [] apart = refl
at_put_else zero (suc other) part (p ∷ view) apart = refl
at_put_else (suc book) zero part [] apart = refl
at_put_else (suc book) zero part (p ∷ view) apart = refl
at_put_else (suc book) (suc other) part [] apart = at_put_else book other part [] (λ e. apart (ap suc e))
at_put_else (suc book) (suc other) part (p ∷ view) apart = at_put_else book other part view (λ e. apart (ap suc e))

pub put_put : (book : ℕ) (new part : Part) (view : View) → put book new (put book part view) ≡ put book new view
put_put zero new part [] = refl
put_put zero new part (p ∷ view) = refl
put_put (suc book) new part [] = ap (λ v. nobody ∷ v) (put_put book new part [])
put_put (suc book) new part (p ∷ view) = ap (λ v. p ∷ v) (put_put book new part view)

pub at_map : (f : Part → Part) → f nobody ≡ nobody → (book : ℕ) (view : View) → at book (map f view) ≡ f (at book view)
at_map f none book [] = sym none
at_map f none zero (p ∷ view) = refl
at_map f none (suc book) (p ∷ view) = at_map f none book view

pub at_paired : (f : Part → Part → Part) → f nobody nobody ≡ nobody → (book : ℕ) (view others : View) → at book (paired f view others) ≡ f (at book view) (at book others)
at_paired f none book [] [] = sym none
at_paired f none zero [] (q ∷ others) = refl
at_paired f none (suc book) [] (q ∷ others) = at_paired f none book [] others
at_paired f none zero (p ∷ view) [] = refl
at_paired f none (suc book) (p ∷ view) [] = at_paired f none book view []
at_paired f none zero (p ∷ view) (q ∷ others) = refl
at_paired f none (suc book) (p ∷ view) (q ∷ others) = at_paired f none book view others

-- ---- of one book alone

pub map_only : (f : Part → Part) → f nobody ≡ nobody → (book : ℕ) (part : Part) → map f (only book part) ≡ only book (f part)
map_only f none zero part = refl
map_only f none (suc book) part = λ i. none i ∷ map_only f none book part i

pub paired_only : (f : Part → Part → Part) → f nobody nobody ≡ nobody → (book : ℕ) (part other : Part) → paired f (only book part) (only book other) ≡ only book (f part other)
paired_only f none zero part other = refl
paired_only f none (suc book) part other = λ i. none i ∷ paired_only f none book part other i

pub join_only : (book : ℕ) (part other : Part) → map compared (paired joined (only book part) (only book other)) ≡ only book (compared (joined part other))
join_only book part other = ap (map compared) (paired_only joined refl book part other) ∙ map_only compared refl book (joined part other)

-- ---- what is settled stays when it is compared with nothing

settled_part : (part : Part) → part.told ≡ [] → compared (joined part nobody) ≡ part
settled_part part told = λ i. record { keeps = part.keeps; log = longer_whole part.log [] (omega arith) i; told = sym told i; held = append-nil part.held i; callers = append-nil part.callers i }

settled_all : (view : View) → IsSettled view → map compared (paired joined view []) ≡ view
settled_all [] settled = refl
settled_all (part ∷ view) settled = λ i. settled_part part settled.0 i ∷ settled_all view settled.1 i

pub join_back : (book : ℕ) (view : View) (part : Part) → at book view ≡ nobody → IsSettled view → map compared (paired joined view (only book part)) ≡ put book (compared (joined nobody part)) view
join_back zero [] part none settled = refl
join_back (suc book) [] part none settled = λ i. nobody ∷ join_back book [] part refl tt i
join_back zero (p ∷ view) part none settled = λ i. compared (joined (none i) part) ∷ settled_all view settled.1 i
join_back (suc book) (p ∷ view) part none settled = λ i. settled_part p settled.0 i ∷ join_back book view part none settled.1 i

pub settled_put : (book : ℕ) (part : Part) (view : View) → part.told ≡ [] → IsSettled view → IsSettled (put book part view)
settled_put zero part [] told settled = (told, tt)
settled_put (suc book) part [] told settled = (refl, settled_put book part [] told tt)
settled_put zero part (p ∷ view) told settled = (told, settled.1)
settled_put (suc book) part (p ∷ view) told settled = (settled.0, settled_put book part view told settled.1)

-- ---- the views of tokens

pub at_views : {A B : Type 0} (f : A → B) (views : List A) (by : ℕ) (v : A) → get_elem? views by ≡ some v → get_elem? (map f views) by ≡ some (f v)
at_views f [] by v e = absurd (some-ne-none v (sym e))
at_views f (x ∷ views) zero v e = ap (λ y. some (f y)) (some-injective x v e)
at_views f (x ∷ views) (suc by) v e = at_views f views by v e
