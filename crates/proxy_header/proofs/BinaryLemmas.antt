-- Headers of version 2, and bytes that follow them.
use Rattle.std.proofs.Common.{◌≡◌, ℕ, ◌+◌, ◌*◌, ◌<◌, ◌≤◌, ◌==◌, ◌&&◌, List, ◌++◌, length, get_or, take, drop, arith, refl, sym, ◌∙◌, ap, Bool, true, false, not, nat_lt, Some, None, length-append, length-drop, inl, inr}
use Rattle.std.proofs.lemmas.Bool.{and_from, and_parts, cases_lt, lt-ltb, le-ltb, ltb-true, ltb-false}
use Rattle.std.proofs.lemmas.List.{drop-append-le, get_or_append_left, take-append-le}
use Rattle.std.specs.Prelude.{if◌then◌else◌}
use Rattle.rule_addresses.specs.declared.address.Address.TheVariants.{V4, V6}
use Rattle.proxy_header.specs.declared.ends.Ends.{Ends}
use Rattle.proxy_header.specs.declared.ends.Heard.{Heard}
use Rattle.proxy_header.specs.declared.ends.Heard.TheVariants.{Unfinished, Wrong, Told}
use Rattle.proxy_header.specs.Binary.{heard_binary, heard_whole, ipv4_ends, ipv6_ends, is_command, is_kind, number_at, whole_length}
use Rattle.proxy_header.specs.Header.{HasRoom}

-- what is there stays where more follows
byte_stays : (bytes more : List ℕ) (place : ℕ) → place < length bytes → get_or (bytes ++ more) place 0 ≡ get_or bytes place 0
byte_stays bytes more place inside = get_or_append_left bytes more 0 place inside

part_stays : (bytes more : List ℕ) (place count : ℕ) → place + count ≤ length bytes → take count (drop place (bytes ++ more)) ≡ take count (drop place bytes)
part_stays bytes more place count inside =
    ap (take count) (drop-append-le place bytes more (omega arith)) ∙ take-append-le count (drop place bytes) more (omega (arith, length-drop place bytes))

number_stays : (bytes more : List ℕ) (place : ℕ) → place + 2 ≤ length bytes → number_at (bytes ++ more) place ≡ number_at bytes place
number_stays bytes more place inside = λ i. 256 * byte_stays bytes more place (omega arith) i + byte_stays bytes more (place + 1) (omega arith) i

ipv4_stays : (bytes more : List ℕ) → 28 ≤ length bytes → ipv4_ends (bytes ++ more) ≡ ipv4_ends bytes
ipv4_stays bytes more inside = λ i. record {
  source = V4 (part_stays bytes more 16 4 (omega arith) i);
  destination = V4 (part_stays bytes more 20 4 (omega arith) i);
  source_port = number_stays bytes more 24 (omega arith) i;
  destination_port = number_stays bytes more 26 (omega arith) i;
}

ipv6_stays : (bytes more : List ℕ) → 52 ≤ length bytes → ipv6_ends (bytes ++ more) ≡ ipv6_ends bytes
ipv6_stays bytes more inside = λ i. record {
  source = V6 (part_stays bytes more 16 16 (omega arith) i);
  destination = V6 (part_stays bytes more 32 16 (omega arith) i);
  source_port = number_stays bytes more 48 (omega arith) i;
  destination_port = number_stays bytes more 50 (omega arith) i;
}

-- ends, where the header has room for them
abbrev told_if : ℕ → ℕ → Ends → Heard
told_if whole least ends = if nat_lt whole least then Wrong else Told whole (Some ends)

told_if-same : (whole least : ℕ) (ends other : Ends) → (least ≤ whole → ends ≡ other) → told_if whole least ends ≡ told_if whole least other
told_if-same whole least ends other same = elim (cases_lt whole least) [
  | inl short ↦ rw (lt-ltb whole least short) refl
  | inr long ↦ ap (told_if whole least) (same long)
]

-- what a whole header says, by its two tests
abbrev by_tests : (four six : Bool) → ℕ → Ends → Ends → Heard
by_tests four six whole ends4 ends6 = if four then told_if whole 28 ends4 else if six then told_if whole 52 ends6 else Told whole None

by_tests-same : (four six : Bool) (whole : ℕ) (ends4 ends6 other4 other6 : Ends) → (28 ≤ whole → ends4 ≡ other4) → (52 ≤ whole → ends6 ≡ other6) →
    by_tests four six whole ends4 ends6 ≡ by_tests four six whole other4 other6
by_tests-same true six whole ends4 ends6 other4 other6 same4 same6 = told_if-same whole 28 ends4 other4 same4
by_tests-same false true whole ends4 ends6 other4 other6 same4 same6 = told_if-same whole 52 ends6 other6 same6
by_tests-same false false whole ends4 ends6 other4 other6 same4 same6 = refl

whole_stays : (bytes more : List ℕ) (whole : ℕ) → 16 ≤ length bytes → whole ≤ length bytes → heard_whole (bytes ++ more) whole ≡ heard_whole bytes whole
whole_stays bytes more whole fixed inside =
    let command = byte_stays bytes more 12 (omega arith) in
    let kind = byte_stays bytes more 13 (omega arith) in
    (λ i. by_tests ((command i == 0x21) && (kind i == 0x11)) ((command i == 0x21) && (kind i == 0x21)) whole (ipv4_ends (bytes ++ more)) (ipv6_ends (bytes ++ more)))
    ∙ by_tests-same ((get_or bytes 12 0 == 0x21) && (get_or bytes 13 0 == 0x11)) ((get_or bytes 12 0 == 0x21) && (get_or bytes 13 0 == 0x21)) whole
    (ipv4_ends (bytes ++ more)) (ipv6_ends (bytes ++ more)) (ipv4_ends bytes) (ipv6_ends bytes)
    (λ room. ipv4_stays bytes more (omega arith)) (λ room. ipv6_stays bytes more (omega arith))

-- what a whole header says has room
told_if-room : (count whole least : ℕ) (ends : Ends) → whole ≤ count → whole ≤ 4096 → HasRoom count (told_if whole least ends)
told_if-room count whole least ends inside small = elim (nat_lt whole least) as (λ test. HasRoom count (if test then Wrong else Told whole (Some ends))) [ true ↦ tt | false ↦ (inside, small) ]

by_tests-room : (four six : Bool) (count whole : ℕ) (ends4 ends6 : Ends) → whole ≤ count → whole ≤ 4096 → HasRoom count (by_tests four six whole ends4 ends6)
by_tests-room true six count whole ends4 ends6 inside small = told_if-room count whole 28 ends4 inside small
by_tests-room false true count whole ends4 ends6 inside small = told_if-room count whole 52 ends6 inside small
by_tests-room false false count whole ends4 ends6 inside small = (inside, small)

-- what is said, by the five tests in their order
abbrev pub judged : (command kind short long unfinished : Bool) → Heard → Heard
judged command kind short long unfinished whole =
    if command then Wrong else if kind then Wrong else if short then Unfinished else if long then Wrong else if unfinished then Unfinished else whole

-- a byte that fails a test
abbrev pub fails : (ℕ → Bool) → ℕ → List ℕ → Bool
fails test place bytes = nat_lt place (length bytes) && not (test (get_or bytes place 0))

fails-stays : (test : ℕ → Bool) (place : ℕ) (bytes more : List ℕ) → fails test place bytes ≡ true → fails test place (bytes ++ more) ≡ true
fails-stays test place bytes more fail =
    let parts = and_parts (nat_lt place (length bytes)) (not (test (get_or bytes place 0))) fail in
    let inside : place < length bytes = ltb-true place (length bytes) parts.0 in
    and_from (nat_lt place (length (bytes ++ more))) (not (test (get_or (bytes ++ more) place 0)))
    (lt-ltb place (length (bytes ++ more)) (omega (arith, inside, length-append bytes more)))
    (ap (λ byte. not (test byte)) (byte_stays bytes more place inside) ∙ parts.1)

fails-same : (test : ℕ → Bool) (place : ℕ) (bytes more : List ℕ) → place < length bytes → fails test place (bytes ++ more) ≡ fails test place bytes
fails-same test place bytes more inside =
    let longer = lt-ltb place (length (bytes ++ more)) (omega (arith, inside, length-append bytes more)) in
    let here = lt-ltb place (length bytes) inside in
    λ i. (longer ∙ sym here) i && not (test (byte_stays bytes more place inside i))

-- where fewer than 16 bytes are there, only a wrong byte tells
short_stays : (command kind command' kind' short' long long' unfinished unfinished' : Bool) (whole whole' : Heard) →
    (judged command kind true long unfinished whole ≡ Unfinished → ⊥) → (command ≡ true → command' ≡ true) → (kind ≡ true → kind' ≡ true) →
    judged command' kind' short' long' unfinished' whole' ≡ judged command kind true long unfinished whole
short_stays true kind command' kind' short' long long' unfinished unfinished' whole whole' said stays stays' = rw (stays refl) refl
short_stays false true true kind' short' long long' unfinished unfinished' whole whole' said stays stays' = refl
short_stays false true false kind' short' long long' unfinished unfinished' whole whole' said stays stays' = rw (stays' refl) refl
short_stays false false command' kind' short' long long' unfinished unfinished' whole whole' said stays stays' = absurd (said refl)

-- where 16 are there, what is said waits at most for the rest
long_stays : (command kind long unfinished unfinished' : Bool) (whole whole' : Heard) → (judged command kind false long unfinished whole ≡ Unfinished → ⊥) →
    (unfinished ≡ false → (unfinished' ≡ false) × (whole' ≡ whole)) → judged command kind false long unfinished' whole' ≡ judged command kind false long unfinished whole
long_stays true kind long unfinished unfinished' whole whole' said stays = refl
long_stays false true long unfinished unfinished' whole whole' said stays = refl
long_stays false false true unfinished unfinished' whole whole' said stays = refl
long_stays false false false true unfinished' whole whole' said stays = absurd (said refl)
long_stays false false false false unfinished' whole whole' said stays = rw ((stays refl).0) ((stays refl).1)

-- what five tests say, of these bytes
abbrev pub tests_say : List ℕ → Bool → ℕ → Heard
tests_say bytes short whole =
    judged (fails is_command 12 bytes) (fails is_kind 13 bytes) short (nat_lt 4096 whole) (nat_lt (length bytes) whole) (heard_whole bytes whole)

pub heard_binary-is : (bytes : List ℕ) → heard_binary bytes ≡ tests_say bytes (nat_lt (length bytes) 16) (whole_length bytes)
unfolding heard_binary
heard_binary-is bytes = refl

long_tests_stay : (bytes more : List ℕ) (whole : ℕ) → 16 ≤ length bytes → (tests_say bytes false whole ≡ Unfinished → ⊥) → tests_say (bytes ++ more) false whole ≡ tests_say bytes false whole
long_tests_stay bytes more whole fixed said =
    let command = fails-same is_command 12 bytes more (omega arith) in
    let kind = fails-same is_kind 13 bytes more (omega arith) in
    (λ i. judged (command i) (kind i) false (nat_lt 4096 whole) (nat_lt (length (bytes ++ more)) whole) (heard_whole (bytes ++ more) whole))
    ∙ long_stays (fails is_command 12 bytes) (fails is_kind 13 bytes) (nat_lt 4096 whole) (nat_lt (length bytes) whole) (nat_lt (length (bytes ++ more)) whole)
    (heard_whole bytes whole) (heard_whole (bytes ++ more) whole) said
    (λ there. let inside : whole ≤ length bytes = ltb-false (length bytes) whole there in
    (le-ltb (length (bytes ++ more)) whole (omega (arith, inside, length-append bytes more)), whole_stays bytes more whole fixed inside))

pub binary_stays : (bytes more : List ℕ) → (heard_binary bytes ≡ Unfinished → ⊥) → heard_binary (bytes ++ more) ≡ heard_binary bytes
binary_stays bytes more said = elim (cases_lt (length bytes) 16) [
  | inl short ↦
      let test = lt-ltb (length bytes) 16 short in
      let is : heard_binary bytes ≡ tests_say bytes true (whole_length bytes) = heard_binary-is bytes ∙ ap (λ b. tests_say bytes b (whole_length bytes)) test in
      heard_binary-is (bytes ++ more)
      ∙ short_stays (fails is_command 12 bytes) (fails is_kind 13 bytes) (fails is_command 12 (bytes ++ more)) (fails is_kind 13 (bytes ++ more))
      (nat_lt (length (bytes ++ more)) 16) (nat_lt 4096 (whole_length bytes)) (nat_lt 4096 (whole_length (bytes ++ more)))
      (nat_lt (length bytes) (whole_length bytes)) (nat_lt (length (bytes ++ more)) (whole_length (bytes ++ more)))
      (heard_whole bytes (whole_length bytes)) (heard_whole (bytes ++ more) (whole_length (bytes ++ more)))
      (λ unfinished. said (is ∙ unfinished)) (fails-stays is_command 12 bytes more) (fails-stays is_kind 13 bytes more)
      ∙ sym is
  | inr long ↦
      let test = le-ltb (length bytes) 16 long in
      let longer = le-ltb (length (bytes ++ more)) 16 (omega (arith, long, length-append bytes more)) in
      let whole = ap (λ n. 16 + n) (number_stays bytes more 14 (omega arith)) in
      let is : heard_binary bytes ≡ tests_say bytes false (whole_length bytes) = heard_binary-is bytes ∙ ap (λ b. tests_say bytes b (whole_length bytes)) test in
      heard_binary-is (bytes ++ more)
      ∙ (λ i. tests_say (bytes ++ more) (longer i) (whole i))
      ∙ long_tests_stay bytes more (whole_length bytes) long (λ unfinished. said (is ∙ unfinished))
      ∙ sym is
]

-- what is said has room
judged-room : (count whole : ℕ) (command kind short long unfinished : Bool) (said : Heard) → (short ≡ true → count < 16) → (long ≡ false → whole ≤ 4096) →
    (unfinished ≡ true → count < whole) → (unfinished ≡ false → long ≡ false → HasRoom count said) → HasRoom count (judged command kind short long unfinished said)
judged-room count whole true kind short long unfinished said few small waits there = tt
judged-room count whole false true short long unfinished said few small waits there = tt
judged-room count whole false false true long unfinished said few small waits there = omega (arith, few refl)
judged-room count whole false false false true unfinished said few small waits there = tt
judged-room count whole false false false false true said few small waits there = omega (arith, small refl, waits refl)
judged-room count whole false false false false false said few small waits there = there refl refl

pub binary_room : (bytes : List ℕ) → HasRoom (length bytes) (heard_binary bytes)
unfolding heard_binary
binary_room bytes =
    let whole : ℕ = whole_length bytes in
    judged-room (length bytes) whole (fails is_command 12 bytes) (fails is_kind 13 bytes) (nat_lt (length bytes) 16) (nat_lt 4096 whole) (nat_lt (length bytes) whole)
    (heard_whole bytes whole) (ltb-true (length bytes) 16) (ltb-false 4096 whole) (ltb-true (length bytes) whole)
    (λ there small. by_tests-room ((get_or bytes 12 0 == 0x21) && (get_or bytes 13 0 == 0x11)) ((get_or bytes 12 0 == 0x21) && (get_or bytes 13 0 == 0x21))
    (length bytes) whole (ipv4_ends bytes) (ipv6_ends bytes) (ltb-false (length bytes) whole there) (ltb-false 4096 whole small))
