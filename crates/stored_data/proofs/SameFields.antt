-- When two fields are one.
use Rattle.std.proofs.Common.{◌≡◌, ◌==◌, ◌&&◌, Bool, true, false, arith, ap, ◌∙◌, refl}
use Rattle.std.proofs.lemmas.Bool.{and_parts}
use Rattle.std.proofs.lemmas.Bool.Decides.{nat_tests}
use Rattle.stored_data.specs.Data.{place}
use Rattle.stored_data.specs.Fields.{same_field}
use Rattle.stored_data.proofs.Columns.{place-injective}
use Rattle.stored_data.specs.declared.field.Field.{Field}

both : (a b : Field) → a.datum ≡ b.datum → a.index ≡ b.index → a ≡ b
both a b datum index = λ i. record { datum = datum i; index = index i }

pub same_field-is : (a b : Field) → same_field a b ≡ true → a ≡ b
unfolding same_field
same_field-is a b same =
    let parts = and_parts (place a.datum == place b.datum) (a.index == b.index) same in
    let here : (place a.datum == place b.datum) ≡ true = parts.0 in
    let there : (a.index == b.index) ≡ true = parts.1 in
    both a b (place-injective a.datum b.datum (grind (arith, nat_tests))) (grind (arith, nat_tests))

pub same_field-refl : (a : Field) → same_field a a ≡ true
unfolding same_field
same_field-refl a =
    let here : (place a.datum == place a.datum) ≡ true = grind (arith, nat_tests) in
    let there : (a.index == a.index) ≡ true = grind (arith, nat_tests) in
    ap (λ b. b && (a.index == a.index)) here ∙ there

-- fields of other data or other indexes are others
pub other_place : (a b : Field) → (place a.datum == place b.datum) ≡ false → same_field a b ≡ false
unfolding same_field
other_place a b other = ap (λ here. here && (a.index == b.index)) other

pub other_index : (a b : Field) → (a.index == b.index) ≡ false → same_field a b ≡ false
unfolding same_field
other_index a b other = go (place a.datum == place b.datum)
  where
    go : (here : Bool) → (here && (a.index == b.index)) ≡ false
    go true = other
    go false = refl

-- fields of one datum are one where their indexes are
pub same_places : (a b : Field) → (place a.datum == place b.datum) ≡ true → same_field a b ≡ (a.index == b.index)
unfolding same_field
same_places a b same = ap (λ here. here && (a.index == b.index)) same
