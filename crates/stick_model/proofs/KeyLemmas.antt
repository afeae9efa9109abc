-- Keys are the same where their bytes are.
use Rattle.std.proofs.Common.{◌≡◌, true, refl}
use Rattle.std.specs.Cmp.{tied_itself}
use Rattle.std.specs.Cmp.Lexicographic.{nat_list_cmp_total}
use Rattle.std.specs.Ordering.{is_eq}
use Rattle.std.specs.declared.cmp.Ordering.{Ordering}
use Rattle.std.specs.declared.cmp.Ordering.TheVariants.{Less, Equal, Greater}
use Rattle.std.proofs.Common.{ap}
use Rattle.std.proofs.lemmas.Map.Lookups.{exact_bytes}
use Rattle.stick_model.specs.Key.{Key, key_cmp, same_key}

Equal-from : (o : Ordering) → is_eq o ≡ true → o ≡ Equal
Equal-from Less h = cc
Equal-from Equal h = refl
Equal-from Greater h = cc

pub same_key-exact : (a b : Key) → same_key a b ≡ true → a ≡ b
same_key-exact a b h = exact_bytes a b (Equal-from (key_cmp a b) h)

pub same_key-refl : (key : Key) → same_key key key ≡ true
same_key-refl key = ap is_eq (tied_itself nat_list_cmp_total key)
