-- One socket more of those that are handed over.
use Rattle.std.proofs.Common.{◌≡◌, ℕ, zero, suc, ◌+◌, ◌-◌, ◌<◌, ◌++◌, ◌∷◌, [], List, sym, ap, ◌∙◌, arith}
use Rattle.std.proofs.lemmas.List.{append_assoc}
use Rattle.tcp_watch.specs.Handed.{first_name, other_names, sockets_from}
use Rattle.tcp_watch.specs.declared.handed.HandedSocket.{HandedSocket}

-- the first of some, and those behind it
sockets_more : (number : ℕ) (names : List (List ℕ)) (left : ℕ) → 0 < left
    → sockets_from number names left ≡ record { number = number; name = first_name names } ∷ sockets_from (number + 1) (other_names names) (left - 1)
sockets_more number names zero some = absurd (omega (arith, some))
sockets_more number names (suc left) some =
    let less : left ≡ suc left - 1 = omega arith in
    ap (λ count. record { number = number; name = first_name names } ∷ sockets_from (number + 1) (other_names names) count) less

-- with the first of those that are left, the others are left
pub one_more : (sockets all : List HandedSocket) (number : ℕ) (names : List (List ℕ)) (left : ℕ) → 0 < left → sockets ++ sockets_from number names left ≡ all
    → (sockets ++ record { number = number; name = first_name names } ∷ []) ++ sockets_from (number + 1) (other_names names) (left - 1) ≡ all
one_more sockets all number names left some is =
    append_assoc sockets (record { number = number; name = first_name names } ∷ []) (sockets_from (number + 1) (other_names names) (left - 1))
    ∙ ap (λ rest. sockets ++ rest) (sym (sockets_more number names left some)) ∙ is
