-- The greatest of many numbers.
use Rattle.std.specs.Prelude.{ℕ, suc, ◌+◌, nat_lt, List, [], ◌∷◌, take, if◌then◌else◌}
use Rattle.std.specs.List.{insert}
use Rattle.stickd_ctl.specs.declared.ranking.Ranked.{Ranked}

-- how many at the head are at least as great
abbrev pub ahead : ℕ → List Ranked → ℕ
ahead value [] = 0
ahead value (other ∷ others) = if nat_lt other.value value then 0 else ahead value others + 1

-- one is put behind those at the head that are at least as great, and so many are kept
abbrev pub with_one : ℕ → Ranked → List Ranked → List Ranked
with_one most one ranked = take most (insert ranked (ahead one.value ranked) one)

-- each number in turn, from a place on
abbrev pub ranked_on : ℕ → ℕ → List ℕ → List Ranked → List Ranked
ranked_on most place [] ranked = ranked
ranked_on most place (value ∷ values) ranked = ranked_on most (place + 1) values (with_one most (record { value = value; place = place }) ranked)

abbrev pub greatest : ℕ → List ℕ → List Ranked
greatest most values = ranked_on most 0 values []
