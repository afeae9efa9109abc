-- Shares come to all.
use Rattle.std.proofs.Common.{◌≡◌, arith, ℕ, zero, suc, ◌+◌, ◌*◌, ◌/◌, ◌%◌, ◌≤◌, ◌<◌, min, nat_lt, if◌then◌else◌}
use Rattle.std.proofs.Math.Nat.{div-add-mod, mod-lt}
use Rattle.tcp_relay.specs.Accepting.{shares_of}

-- one more worker's share
step : (q r k sum : ℕ) → sum ≡ k * q + min k r → sum + (q + (if nat_lt k r then 1 else 0)) ≡ suc k * q + min (suc k) r
step q r k sum is = grind (arith, is)

so_far : (c w k : ℕ) → shares_of c w k ≡ k * (c / w) + min k (c % w)
unfolding shares_of
so_far c w zero = omega arith
so_far c w (suc k) = step (c / w) (c % w) k (shares_of c w k) (so_far c w k)

pub all_shares : (c w : ℕ) → 1 ≤ w → shares_of c w w ≡ c
all_shares c w some =
    let below : c % w < w = mod-lt c some in
    let whole : w * (c / w) + c % w ≡ c = div-add-mod c w in
    let all : shares_of c w w ≡ w * (c / w) + min w (c % w) = so_far c w w in
    grind (arith, below, whole, all)
