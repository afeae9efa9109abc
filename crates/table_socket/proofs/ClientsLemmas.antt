-- One client more.
use Rattle.std.proofs.Common.{◌≡◌, ℕ, suc, ◌+◌, ◌-◌, ◌^◌, min, List, ◌∷◌, length, sum_by, arith, sym, ◌∙◌, ap}
use Rattle.std.proofs.lemmas.List.Sums.{sum_by-cons}
use Rattle.table_socket.specs.Clients.{Visits}

more_clients : (n counted after : ℕ) → counted ≡ min n (2 ^ 64 - 1) → after ≡ min (counted + 1) (2 ^ 64 - 1) → after ≡ min (suc n) (2 ^ 64 - 1)
more_clients n counted after is then = omega (arith, is, then)

more_commands : (count n counted after : ℕ) → counted ≡ min n (2 ^ 64 - 1) → after ≡ min (counted + count) (2 ^ 64 - 1) → after ≡ min (count + n) (2 ^ 64 - 1)
more_commands count n counted after is then = omega (arith, is, then)

pub visits_more : {S : Type 0} (visits : S → ℕ → S → Type 0) (old middle new : S) (counts : List ℕ) (count clients commands clients_after commands_after : ℕ)
    → clients ≡ min (length counts) (2 ^ 64 - 1) → commands ≡ min (sum_by (λ (n : ℕ). n) counts) (2 ^ 64 - 1)
    → clients_after ≡ min (clients + 1) (2 ^ 64 - 1) → commands_after ≡ min (commands + count) (2 ^ 64 - 1)
    → Visits visits old counts middle → visits middle count new
    → (all : List ℕ) × Visits visits old all new × (clients_after ≡ min (length all) (2 ^ 64 - 1)) × (commands_after ≡ min (sum_by (λ (n : ℕ). n) all) (2 ^ 64 - 1))
visits_more visits old middle new counts count clients commands clients_after commands_after were_clients were_commands more more_of before visit =
    (count ∷ counts, (middle, before, visit), more_clients (length counts) clients clients_after were_clients more, more_commands count (sum_by (λ (n : ℕ). n) counts) commands commands_after were_commands more_of ∙ ap (λ (s : ℕ). min s (2 ^ 64 - 1)) (sym (sum_by-cons (λ (n : ℕ). n) count counts)))
