-- A header of version 2 that is written, read again.
use Rattle.std.proofs.Common.{◌≡◌, ℕ, ◌+◌, ◌*◌, ◌<◌, ◌≤◌, List, [], ◌∷◌, ◌++◌, length, get_or, take, drop, arith, refl, ◌∙◌, ap, true, false, not, nat_lt, Some, None, length-append}
use Rattle.std.proofs.lemmas.Bool.{and_right, le-ltb}
use Rattle.std.proofs.lemmas.List.{drop_at, get_or-append-add, take_at}
use Rattle.std.specs.Int.{to_be_bytes, w16}
use Rattle.rule_addresses.specs.declared.address.Address.TheVariants.{V4, V6}
use Rattle.proxy_header.specs.declared.ends.Heard.TheVariants.{Told}
use Rattle.proxy_header.specs.Binary.{heard_binary, heard_whole, is_command, is_kind, signature, whole_length}
use Rattle.proxy_header.specs.Header.{heard}
use Rattle.proxy_header.proofs.BinaryLemmas.{fails, heard_binary-is, tests_say}

-- the fixed part of a header, and what stands behind it
abbrev pub fixed : ℕ → ℕ → List ℕ → List ℕ
fixed kind count block = signature ++ (0x21 ∷ kind ∷ 0 ∷ count ∷ block)

-- the ports behind both addresses
abbrev pub ports : ℕ → ℕ → List ℕ
ports source destination = to_be_bytes w16 source ++ to_be_bytes w16 destination

in_two_bytes : (n : ℕ) → n < 65536 → 256 * get_or (to_be_bytes w16 n) 0 0 + get_or (to_be_bytes w16 n) 1 0 ≡ n
in_two_bytes n small = omega (arith, small)

first_part : (n : ℕ) (a rest : List ℕ) → length a ≡ n → take n (a ++ rest) ≡ a
first_part n a rest long = take_at a rest n long

second_part : (n : ℕ) (a b rest : List ℕ) → length a ≡ n → length b ≡ n → take n (drop n (a ++ (b ++ rest))) ≡ b
second_part n a b rest long_a long_b = ap (take n) (drop_at a (b ++ rest) n long_a) ∙ take_at b rest n long_b

behind_both : (n place k : ℕ) (a b rest : List ℕ) → length a ≡ n → length b ≡ n → place ≡ n + (n + k) → get_or (a ++ (b ++ rest)) place 0 ≡ get_or rest k 0
behind_both n place k a b rest long_a long_b at =
    let here : place ≡ length a + (length b + k) = omega (arith, long_a, long_b, at) in
    ap (λ p. get_or (a ++ (b ++ rest)) p 0) here ∙ get_or-append-add a (b ++ rest) (length b + k) 0 ∙ get_or-append-add b rest k 0

pub length-block : (n : ℕ) (a b : List ℕ) (p q : ℕ) → length a ≡ n → length b ≡ n → length (a ++ (b ++ ports p q)) ≡ n + n + 4
length-block n a b p q long_a long_b = omega (arith, long_a, long_b, length-append a (b ++ ports p q), length-append b (ports p q))

-- what is heard of a fixed part that is right, where all is there
right : (kind count : ℕ) (block : List ℕ) → is_kind kind ≡ true → length block ≡ count → 16 + count ≤ 4096 → heard_binary (fixed kind count block) ≡ heard_whole (fixed kind count block) (16 + count)
right kind count block known long small =
    let bytes : List ℕ = fixed kind count block in
    let command : fails is_command 12 bytes ≡ false = and_right (nat_lt 12 (length bytes)) false refl in
    let is : fails is_kind 13 bytes ≡ false = and_right (nat_lt 13 (length bytes)) (not (is_kind kind)) (ap not known) in
    let there : nat_lt (length bytes) 16 ≡ false = le-ltb (length bytes) 16 (omega arith) in
    let fits : nat_lt 4096 (16 + count) ≡ false = le-ltb 4096 (16 + count) small in
    let all : nat_lt (length bytes) (16 + count) ≡ false = le-ltb (length bytes) (16 + count) (omega (arith, long)) in
    let whole : whole_length bytes ≡ 16 + count = omega arith in
    heard_binary-is bytes ∙ ap (tests_say bytes (nat_lt (length bytes) 16)) whole ∙ rw (command, is, there, fits, all) refl

pub reads_ipv4 : (a b : List ℕ) (p q : ℕ) → length a ≡ 4 → length b ≡ 4 → p < 65536 → q < 65536 →
    heard_binary (fixed 0x11 12 (a ++ (b ++ ports p q))) ≡ Told 28 (Some (record { source = V4 a; destination = V4 b; source_port = p; destination_port = q }))
reads_ipv4 a b p q long_a long_b small_p small_q =
    let block : List ℕ = a ++ (b ++ ports p q) in
    let source : take 4 block ≡ a = first_part 4 a (b ++ ports p q) long_a in
    let destination : take 4 (drop 4 block) ≡ b = second_part 4 a b (ports p q) long_a long_b in
    let port : 256 * get_or block 8 0 + get_or block 9 0 ≡ p =
    (λ i. 256 * behind_both 4 8 0 a b (ports p q) long_a long_b refl i + behind_both 4 9 1 a b (ports p q) long_a long_b refl i) ∙ in_two_bytes p small_p in
    let other : 256 * get_or block 10 0 + get_or block 11 0 ≡ q =
    (λ i. 256 * behind_both 4 10 2 a b (ports p q) long_a long_b refl i + behind_both 4 11 3 a b (ports p q) long_a long_b refl i) ∙ in_two_bytes q small_q in
    right 0x11 12 block refl (length-block 4 a b p q long_a long_b) (omega arith)
    ∙ (λ i. Told 28 (Some (record { source = V4 (source i); destination = V4 (destination i); source_port = port i; destination_port = other i })))

pub reads_ipv6 : (a b : List ℕ) (p q : ℕ) → length a ≡ 16 → length b ≡ 16 → p < 65536 → q < 65536 →
    heard_binary (fixed 0x21 36 (a ++ (b ++ ports p q))) ≡ Told 52 (Some (record { source = V6 a; destination = V6 b; source_port = p; destination_port = q }))
reads_ipv6 a b p q long_a long_b small_p small_q =
    let block : List ℕ = a ++ (b ++ ports p q) in
    let source : take 16 block ≡ a = first_part 16 a (b ++ ports p q) long_a in
    let destination : take 16 (drop 16 block) ≡ b = second_part 16 a b (ports p q) long_a long_b in
    let port : 256 * get_or block 32 0 + get_or block 33 0 ≡ p =
    (λ i. 256 * behind_both 16 32 0 a b (ports p q) long_a long_b refl i + behind_both 16 33 1 a b (ports p q) long_a long_b refl i) ∙ in_two_bytes p small_p in
    let other : 256 * get_or block 34 0 + get_or block 35 0 ≡ q =
    (λ i. 256 * behind_both 16 34 2 a b (ports p q) long_a long_b refl i + behind_both 16 35 3 a b (ports p q) long_a long_b refl i) ∙ in_two_bytes q small_q in
    right 0x21 36 block refl (length-block 16 a b p q long_a long_b) (omega arith)
    ∙ (λ i. Told 52 (Some (record { source = V6 (source i); destination = V6 (destination i); source_port = port i; destination_port = other i })))

pub reads_none : heard_binary (fixed 0 0 []) ≡ Told 16 None
unfolding heard_binary
reads_none = refl

-- what begins with the signature is read so
pub heard_fixed : (kind count : ℕ) (block : List ℕ) → heard (fixed kind count block) ≡ heard_binary (fixed kind count block)
unfolding heard
heard_fixed kind count block = refl
