-- Headers of version 1, and bytes that follow them.
use Rattle.std.proofs.Common.{◌≡◌, ℕ, ◌+◌, ◌-◌, ◌≤◌, ◌==◌, List, [], ◌∷◌, ◌++◌, length, take, arith, refl, sym, ◌∙◌, ap, Bool, true, false, nat_lt, Option, Some, None, codes, length-append, inl, inr}
use Rattle.std.proofs.Math.Seq.{take-append-add}
use Rattle.std.proofs.lemmas.Bool.{and_right, cases_lt, cond_both, le-ltb, lt-ltb, ltb-true, true≢false}
use Rattle.std.proofs.lemmas.List.{length-take, take-append-le, take_all}
use Rattle.std.proofs.lemmas.Option.{none-some, same_Some}
use Rattle.std.specs.Option.{option_map}
use Rattle.std.specs.Prelude.{if◌then◌else◌}
use Rattle.std.specs.Str.{bytes_eq}
use Rattle.base_lines.specs.Parts.{parts, is_byte}
use Rattle.proxy_header.specs.declared.ends.Ends.{Ends}
use Rattle.proxy_header.specs.declared.ends.Heard.TheVariants.{Unfinished, Wrong}
use Rattle.proxy_header.specs.declared.family.Family.TheVariants.{Ipv4, Ipv6}
use Rattle.proxy_header.specs.Header.{HasRoom}
use Rattle.proxy_header.specs.Line.{ends_of, first_line, heard_line, told_ends, told_line, told_words}
use Rattle.proxy_header.proofs.LineLemmas.{ends_here}

-- one byte ends no line
one_byte : (byte : ℕ) → ends_here (byte ∷ []) ≡ false
one_byte byte = and_right (13 == byte) false refl

alone : (test : Bool) (byte : ℕ) → test ≡ false → (if test then Some [] else option_map (λ line. byte ∷ line) None) ≡ None
alone true byte other = absurd (true≢false other)
alone false byte other = refl

none_alone : (byte : ℕ) → first_line (byte ∷ []) ≡ None
none_alone byte = alone (ends_here (byte ∷ [])) byte (one_byte byte)

-- a line behind a byte
behind : (test : Bool) (byte : ℕ) (rest longer : Option (List ℕ)) (line : List ℕ) → ((found : List ℕ) → rest ≡ Some found → longer ≡ Some found) →
    (if test then Some [] else option_map (λ line. byte ∷ line) rest) ≡ Some line → (if test then Some [] else option_map (λ line. byte ∷ line) longer) ≡ Some line
behind true byte rest longer line stays gives = gives
behind false byte None longer line stays gives = absurd (none-some line gives)
behind false byte (Some found) longer line stays gives = ap (option_map (λ line. byte ∷ line)) (stays found refl) ∙ gives

-- a line that is there stays where more follows
first_line-stays : (bytes more line : List ℕ) → first_line bytes ≡ Some line → first_line (bytes ++ more) ≡ Some line
first_line-stays [] more line gives = absurd (none-some line gives)
first_line-stays (byte ∷ []) more line gives = absurd (none-some line (sym (none_alone byte) ∙ gives))
first_line-stays (byte ∷ next ∷ bytes) more line gives =
    behind (ends_here (byte ∷ next ∷ bytes)) byte (first_line (next ∷ bytes)) (first_line (next ∷ (bytes ++ more))) line
    (λ found is. first_line-stays (next ∷ bytes) more found is) gives

-- two bytes end it
room_behind : (test : Bool) (byte count : ℕ) (rest : Option (List ℕ)) (line : List ℕ) → 2 ≤ count → ((found : List ℕ) → rest ≡ Some found → length found + 3 ≤ count) →
    (if test then Some [] else option_map (λ line. byte ∷ line) rest) ≡ Some line → length line + 2 ≤ count
room_behind true byte count rest line two room gives = rw (← same_Some [] line gives) (omega arith)
room_behind false byte count None line two room gives = absurd (none-some line gives)
room_behind false byte count (Some found) line two room gives = rw (← same_Some (byte ∷ found) line gives) (omega (arith, room found refl))

first_line-room : (bytes line : List ℕ) → first_line bytes ≡ Some line → length line + 2 ≤ length bytes
first_line-room [] line gives = absurd (none-some line gives)
first_line-room (byte ∷ []) line gives = absurd (none-some line (sym (none_alone byte) ∙ gives))
first_line-room (byte ∷ next ∷ bytes) line gives =
    room_behind (ends_here (byte ∷ next ∷ bytes)) byte (length (byte ∷ next ∷ bytes)) (first_line (next ∷ bytes)) line (omega arith)
    (λ found is. omega (arith, first_line-room (next ∷ bytes) found is)) gives

-- what words say has room
ends-room : (count whole : ℕ) (ends : Option Ends) → whole ≤ count → whole ≤ 4096 → HasRoom count (told_ends whole ends)
ends-room count whole None inside small = tt
ends-room count whole (Some ends) inside small = (inside, small)

words-room : (count whole : ℕ) (words : List (List ℕ)) → whole ≤ count → whole ≤ 4096 → HasRoom count (told_words whole words)
words-room count whole [] inside small = tt
words-room count whole (proxy ∷ []) inside small = tt
words-room count whole (proxy ∷ protocol ∷ words) inside small =
    cond_both (bytes_eq protocol (codes "UNKNOWN")) _ _ (HasRoom count) (λ _. (inside, small)) (λ _.
    cond_both (bytes_eq protocol (codes "TCP4")) _ _ (HasRoom count) (λ _. ends-room count whole (ends_of Ipv4 words) inside small) (λ _.
    cond_both (bytes_eq protocol (codes "TCP6")) _ _ (HasRoom count) (λ _. ends-room count whole (ends_of Ipv6 words) inside small) (λ _. tt)))

found-room : (bytes : List ℕ) (found : Option (List ℕ)) → first_line (take 107 bytes) ≡ found → HasRoom (length bytes) (told_line (length bytes) found)
found-room bytes None is = cond_both (nat_lt (length bytes) 107) Unfinished Wrong (HasRoom (length bytes)) (λ few. omega (arith, ltb-true (length bytes) 107 few)) (λ _. tt)
found-room bytes (Some line) is =
    let room = first_line-room (take 107 bytes) line is in
    let whole = length-take 107 bytes in
    words-room (length bytes) (length line + 2) (parts (is_byte 32) line) (omega (arith, room, whole)) (omega (arith, room, whole))

pub line_room : (bytes : List ℕ) → HasRoom (length bytes) (heard_line bytes)
unfolding heard_line
line_room bytes = found-room bytes (first_line (take 107 bytes)) refl

-- a line among the first bytes stays where more follows
window_stays : (bytes more line : List ℕ) → first_line (take 107 bytes) ≡ Some line → first_line (take 107 (bytes ++ more)) ≡ Some line
window_stays bytes more line gives = elim (cases_lt 107 (length bytes)) [
  | inl many ↦ ap first_line (take-append-le 107 bytes more (omega (arith, many))) ∙ gives
  | inr few ↦
      let rest : 107 ≡ length bytes + (107 - length bytes) = omega (arith, few) in
      let longer : take 107 (bytes ++ more) ≡ bytes ++ take (107 - length bytes) more = ap (λ n. take n (bytes ++ more)) rest ∙ take-append-add bytes more (107 - length bytes) in
      ap first_line longer ∙ first_line-stays bytes (take (107 - length bytes) more) line (ap first_line (sym (take_all 107 bytes (omega (arith, few)))) ∙ gives)
]

-- where no line is there
none-waits : (count : ℕ) → (told_line count None ≡ Unfinished → ⊥) → 107 ≤ count
none-waits count said = elim (cases_lt count 107) [
  | inl few ↦ absurd (said (rw (lt-ltb count 107 few) refl))
  | inr many ↦ many
]

none-wrong : (count : ℕ) → 107 ≤ count → told_line count None ≡ Wrong
none-wrong count many = rw (le-ltb count 107 many) refl

found-stays : (bytes more : List ℕ) (found : Option (List ℕ)) → first_line (take 107 bytes) ≡ found → (told_line (length bytes) found ≡ Unfinished → ⊥) →
    told_line (length (bytes ++ more)) (first_line (take 107 (bytes ++ more))) ≡ told_line (length bytes) found
found-stays bytes more None is said =
    let many = none-waits (length bytes) said in
    let same = ap first_line (take-append-le 107 bytes more many) ∙ is in
    ap (told_line (length (bytes ++ more))) same ∙ none-wrong (length (bytes ++ more)) (omega (arith, many, length-append bytes more)) ∙ sym (none-wrong (length bytes) many)
found-stays bytes more (Some line) is said = ap (told_line (length (bytes ++ more))) (window_stays bytes more line is)

pub line_stays : (bytes more : List ℕ) → (heard_line bytes ≡ Unfinished → ⊥) → heard_line (bytes ++ more) ≡ heard_line bytes
unfolding heard_line
line_stays bytes more said = found-stays bytes more (first_line (take 107 bytes)) refl said
