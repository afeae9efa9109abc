-- The bits that networks compare.
use Rattle.std.proofs.Common.{◌≡◌, ℕ, ◌+◌, ◌-◌, ◌<◌, ◌≤◌, ◌/◌, ◌%◌, ◌^◌, List, [], ◌∷◌, true, arith, refl, sym, ◌∙◌, ap, subst, inl, inr}
use Rattle.std.proofs.Math.Nat.{div-div-eq-div-mul, div-eq_of_lt}
use Rattle.std.proofs.Math.Pow.{pow_mono}
use Rattle.std.proofs.lemmas.Bool.{cases_lt, eq-eqb, eqb-true, leb-true}
use Rattle.std.proofs.lemmas.Nat.{pow-add}
use Rattle.std.proofs.lemmas.Nat.Bits.{bit_at_above, same_from_bits}
use Rattle.std.proofs.lemmas.Option.{cond_some, none-some, option_and_then_some}
use Rattle.std.specs.Int.{bit_at}
use Rattle.std.specs.Option.{SomeIff}
use Rattle.std.specs.Prelude.{Option, Some, None, nat_le, unwrap_or}
use Rattle.base_lines.specs.Number.{number_of}
use Rattle.base_lines.specs.Parts.{is_byte, parts}
use Rattle.stick_key.specs.AddressOf.{◌>>=◌}
use Rattle.rule_addresses.specs.Addresses.{address_of, bits_of, network_at, network_of, network_of_parts}
use Rattle.rule_addresses.specs.Laws.{ComparesBitsOfAddress, ComparesFirstBits, HoldsItself}
use Rattle.rule_addresses.specs.Matching.{holds, matches}
use Rattle.rule_addresses.specs.declared.address.Address.{Address}
use Rattle.rule_addresses.specs.declared.address.Address.TheVariants.{V4, V6}
use Rattle.rule_addresses.specs.declared.address.Network.{Network}

-- of 128 bits none are left
none_left : (n k : ℕ) → n < 2 ^ 128 → 128 ≤ k → n / 2 ^ k ≡ 0
none_left n k small many = div-eq_of_lt (omega (arith, small, pow_mono many))

pub no_bits : (n k : ℕ) (shifted : Option ℕ) → n < 2 ^ 128 → SomeIff shifted (k < 128) (n / 2 ^ k) → unwrap_or shifted 0 ≡ n / 2 ^ k
no_bits n k None small known = sym (none_left n k small (omega (arith, known)))
no_bits n k (Some x) small known = known.1

-- the bits that are left
shifted_bit : (n r i : ℕ) → bit_at (n / 2 ^ r) i ≡ bit_at n (r + i)
shifted_bit n r i = ap (λ m. m % 2) (div-div-eq-div-mul n (2 ^ r) (2 ^ i) ∙ ap (λ m. n / m) (sym (pow-add 2 r i)))

pub compares_first_bits : ComparesFirstBits
compares_first_bits bits n a b small_a small_b = (
  λ test k first inside.
      let same : a / 2 ^ (bits - n) ≡ b / 2 ^ (bits - n) = eqb-true _ _ test in
      let place : bits - 1 - k ≡ (bits - n) + (bits - 1 - k - (bits - n)) = omega (arith, first, inside) in
      rw place (sym (shifted_bit a (bits - n) (bits - 1 - k - (bits - n))) ∙ ap (λ m. bit_at m (bits - 1 - k - (bits - n))) same ∙ shifted_bit b (bits - n) (bits - 1 - k - (bits - n))),
  λ each. eq-eqb _ _ (same_from_bits (a / 2 ^ (bits - n)) (b / 2 ^ (bits - n)) (λ i. elim (cases_lt ((bits - n) + i) bits) [
    | inl inside ↦
        let place : bits - 1 - (bits - 1 - ((bits - n) + i)) ≡ (bits - n) + i = omega (arith, inside) in
        shifted_bit a (bits - n) i ∙ rw place at (each (bits - 1 - ((bits - n) + i)) (omega (arith, inside)) (omega (arith, inside))) ∙ sym (shifted_bit b (bits - n) i)
    | inr above ↦
        shifted_bit a (bits - n) i ∙ bit_at_above a bits ((bits - n) + i) small_a above ∙ sym (bit_at_above b bits ((bits - n) + i) small_b above) ∙ sym (shifted_bit b (bits - n) i)
  ])),
)

-- a network holds its own address
itself : (address : Address) (n : ℕ) → matches address n address ≡ true
itself (V4 bytes) n = eq-eqb _ _ refl
itself (V6 bytes) n = eq-eqb _ _ refl

pub holds_itself : HoldsItself
unfolding holds
holds_itself network = itself network.address network.length

-- a network that is read compares no more bits than its address has
at_most : (address : Address) (n : ℕ) (network : Network) → network_at address n ≡ Some network → network.length ≤ bits_of network.address
at_most address n network gives =
    let made : Network = record { address = address; length = n } in
    let known = cond_some (nat_le n (bits_of address)) made network gives in
    let P : Network → Type 0 = λ other. other.length ≤ bits_of other.address in
    subst P known.1 (leb-true n (bits_of address) known.0)

of_parts : (parts : List (List ℕ)) (network : Network) → network_of_parts parts ≡ Some network → network.length ≤ bits_of network.address
of_parts [] network gives = absurd (none-some network gives)
of_parts (text ∷ []) network gives =
    option_and_then_some (λ address. network_at address (bits_of address)) (address_of text) network gives (λ address found made. at_most address (bits_of address) network made)
of_parts (text ∷ digits ∷ []) network gives =
    option_and_then_some (λ address. number_of digits >>= network_at address) (address_of text) network gives (λ address found rest.
    option_and_then_some (network_at address) (number_of digits) network rest (λ n read made. at_most address n network made))
of_parts (text ∷ digits ∷ other ∷ parts) network gives = absurd (none-some network gives)

pub compares_bits_of_address : ComparesBitsOfAddress
unfolding network_of
compares_bits_of_address text network gives = of_parts (parts (is_byte 47) text) network gives
