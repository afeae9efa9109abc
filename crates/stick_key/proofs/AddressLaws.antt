-- The addresses that texts give.
use Rattle.std.proofs.Common.{◌≡◌, ℕ, suc, zero, ◌*◌, List, [], ◌∷◌, ◌++◌, length, replicate, flat_map, arith, refl, sym, ◌∙◌, ap, Bool, inl, inr}
use Rattle.std.proofs.lemmas.List.{length-map}
use Rattle.std.specs.Prelude.{Some}
use Rattle.std.specs.Str.Parse.{digits_value}
use Rattle.stick_key.specs.AddressOf.{GivesBytes, GivesWhatIsSpelled, dotted_of}
use Rattle.stick_key.specs.Dotted.{AreBytes, groups, numbers}
use Rattle.stick_key.specs.Ipv6Text.{IsIpv6, Spell, Spells, group_bytes}
use Rattle.stick_key.specs.KeyText.{Reads}
use Rattle.stick_key.specs.declared.kind.KeyType.TheVariants.{Ip}
use Rattle.stick_key.proofs.DottedLemmas.{dotted_of-is, dotted_of-some}
use Rattle.stick_key.proofs.Ipv6AddressLemmas.{ipv6_of-is, ipv6_of-some}
use Rattle.stick_key.proofs.Ipv6Reread.{AreGroups, pairs_small}
use Rattle.stick_key.proofs.Numerals.{four_hex_digits}

dotted_given : (text address : List ℕ) → Reads Ip text address → dotted_of text ≡ Some address
dotted_given text address reads = let same = reads.2 in dotted_of-some text reads.0 (rw same at reads.1) ∙ ap Some (sym same)

pub gives_what_is_spelled : GivesWhatIsSpelled
gives_what_is_spelled text address = ((dotted_of-is text address, dotted_given text address), (ipv6_of-is text address, ipv6_of-some text address))

-- groups are of 16 bits
spell_small : (dotted_end : Bool) (parts : List (List ℕ)) (all : List ℕ) → Spell dotted_end parts all → AreGroups all
spell_small dotted_end [] all spell = rw spell tt
spell_small dotted_end (part ∷ []) all (inl spell) = rw spell.1 (four_hex_digits part spell.0.0.1 spell.0.1, tt)
spell_small dotted_end (part ∷ []) all (inr spell) = rw spell.3 (pairs_small (numbers part) spell.2)
spell_small dotted_end (part ∷ next ∷ parts) all spell =
    rw spell.1.1 (four_hex_digits part spell.0.0.1 spell.0.1, spell_small dotted_end (next ∷ parts) spell.1.0 spell.1.2)

groups-append : (xs ys : List ℕ) → AreGroups xs → AreGroups ys → AreGroups (xs ++ ys)
groups-append [] ys prefix back = back
groups-append (x ∷ xs) ys prefix back = (prefix.0, groups-append xs ys prefix.1 back)

groups-zeros : (n : ℕ) → AreGroups (replicate n 0)
groups-zeros zero = tt
groups-zeros (suc n) = (omega arith, groups-zeros n)

spells_small : (text all : List ℕ) → Spells text all → AreGroups all
spells_small text all (inl full) = spell_small _ full.parts all full.spell
spells_small text all (inr short) =
    rw short.all (groups-append short.high (replicate short.zeros 0 ++ short.low) (spell_small _ short.prefix short.high short.spell_front)
    (groups-append (replicate short.zeros 0) short.low (groups-zeros short.zeros) (spell_small _ short.back short.low short.spell_back)))

bytes_small : (all : List ℕ) → AreGroups all → AreBytes (flat_map group_bytes all)
bytes_small [] small = tt
bytes_small (group ∷ all) small = (omega (arith, small.0), (omega arith, bytes_small all small.1))

length-bytes : (all : List ℕ) → length (flat_map group_bytes all) ≡ 2 * length all
length-bytes [] = refl
length-bytes (group ∷ all) = omega (arith, length-bytes all)

ipv6_bytes : (text address : List ℕ) → IsIpv6 text address → AreBytes address × (length address ≡ 16)
ipv6_bytes text address spells =
    let same = spells.bytes in
    (rw same (bytes_small spells.groups (spells_small text spells.groups spells.spelled)), omega (arith, ap length same, length-bytes spells.groups, spells.eight))

dotted_bytes : (text address : List ℕ) → Reads Ip text address → AreBytes address × (length address ≡ 4)
dotted_bytes text address reads = (reads.1, omega (arith, ap length reads.2, length-map (groups text) (digits_value 10), reads.0.four))

pub gives_bytes : GivesBytes
gives_bytes text address =
    (λ gives. dotted_bytes text address (dotted_of-is text address gives), λ gives. ipv6_bytes text address (ipv6_of-is text address gives))
