-- What writes one behind another leave of an address's bytes.
use Rattle.std.proofs.Common.{◌≡◌, ◌++◌, ◌-◌, ◌∙◌, ℕ, List, ap, sym, append_assoc, drop, length, length-append, replicate, arith}
use Rattle.std.proofs.Math.Seq.{take-append_seam, drop-append_seam}
use Rattle.tcp_link.specs.Addresses.{padded}
use borrow.Rule.Slice.PartMut.{put_mid}

-- a write right behind a list replaces as much of what follows
put_behind : (front bytes rest : List ℕ) (k : ℕ) → put_mid (length front) k (front ++ rest) bytes ≡ front ++ (bytes ++ drop k rest)
put_behind front bytes rest k = search (take-append_seam front rest, drop-append_seam front rest)

-- the same at a place that is so far
put_at : (front bytes rest : List ℕ) (at k : ℕ) → length front ≡ at → put_mid at k (front ++ rest) bytes ≡ front ++ (bytes ++ drop k rest)
put_at front bytes rest at k is = ap (λ place. put_mid place k (front ++ rest) bytes) (sym is) ∙ put_behind front bytes rest k

-- eight bytes, sixteen behind them, and four behind those
three_fields : (head octets scope : List ℕ) → length head ≡ 8 → length octets ≡ 16
    → put_mid 24 4 (put_mid 8 16 (head ++ replicate 120 0) octets) scope ≡ (head ++ octets) ++ (scope ++ replicate 100 0)
three_fields head octets scope eight sixteen =
    let both : length (head ++ octets) ≡ 24 = omega (arith, length-append head octets, eight, sixteen) in
    ap (λ bytes. put_mid 24 4 bytes scope) (put_at head octets (replicate 120 0) 8 16 eight ∙ sym (append_assoc head octets (replicate 104 0)))
    ∙ put_at (head ++ octets) scope (replicate 104 0) 24 4 both

-- the same as the fields and zeros behind them
three_padded : (head octets scope : List ℕ) → length head ≡ 8 → length octets ≡ 16 → length scope ≡ 4
    → (head ++ octets) ++ (scope ++ replicate 100 0) ≡ padded (head ++ (octets ++ scope))
three_padded head octets scope eight sixteen four =
    let size : length (head ++ (octets ++ scope)) ≡ 28 = omega (arith, length-append head (octets ++ scope), length-append octets scope, eight, sixteen, four) in
    sym (append_assoc (head ++ octets) scope (replicate 100 0)) ∙ ap (λ fields. fields ++ replicate 100 0) (append_assoc head octets scope)
    ∙ ap (λ size. (head ++ (octets ++ scope)) ++ replicate (128 - size) 0) (sym size)

-- what was written are these fields
pub encoded : (first second third head octets scope : List ℕ) → first ≡ head → second ≡ octets → third ≡ scope
    → length head ≡ 8 → length octets ≡ 16 → length scope ≡ 4
    → put_mid 24 4 (put_mid 8 16 (first ++ replicate 120 0) second) third ≡ padded (head ++ (octets ++ scope))
encoded first second third head octets scope is-head is-octets is-scope eight sixteen four =
    ap (λ bytes. put_mid 24 4 (put_mid 8 16 (bytes ++ replicate 120 0) second) third) is-head
    ∙ ap (λ bytes. put_mid 24 4 (put_mid 8 16 (head ++ replicate 120 0) bytes) third) is-octets
    ∙ ap (λ bytes. put_mid 24 4 (put_mid 8 16 (head ++ replicate 120 0) octets) bytes) is-scope
    ∙ three_fields head octets scope eight sixteen ∙ three_padded head octets scope eight sixteen four
