-- Counts in order, with one more.
use Rattle.std.proofs.Common.{ℕ, ◌≤◌, List, [], ◌∷◌, ◌++◌, arith}
use Rattle.std.specs.List.{AllByRecursion}
use Rattle.rate_window.specs.Rate.{Count, IsInOrder, AreUpTo}
use Rattle.rate_window.specs.Laws.{CountsGoOn}

all-append_one : (P : Count → Type 0) (counts : List Count) (new : Count) → AllByRecursion P counts → P new → AllByRecursion P (counts ++ new ∷ [])
all-append_one P [] new all here = (here, tt)
all-append_one P (count ∷ counts) new all here = (all.0, all-append_one P counts new all.1 here)

in_order-append_one : (counts : List Count) (new : Count) → IsInOrder counts → AllByRecursion (λ count. count.moment ≤ new.moment) counts → IsInOrder (counts ++ new ∷ [])
in_order-append_one [] new in_order below = (tt, tt)
in_order-append_one (count ∷ counts) new in_order below =
    (all-append_one (λ next. count.moment ≤ next.moment) counts new in_order.0 below.0, in_order-append_one counts new in_order.1 below.1)

none_later-later : (counts : List Count) (now later : ℕ) → now ≤ later → AllByRecursion (λ count. count.moment ≤ now) counts → AllByRecursion (λ count. count.moment ≤ later) counts
none_later-later [] now later after below = tt
none_later-later (count ∷ counts) now later after below = (omega (arith, below.0), none_later-later counts now later after below.1)

up_to-later : (counts : List Count) (now later : ℕ) → now ≤ later → AreUpTo counts now → AreUpTo counts later
up_to-later counts now later after up_to = record { in_order = up_to.in_order; none_later = none_later-later counts now later after up_to.none_later }

up_to-append_one : (counts : List Count) (now amount : ℕ) → AreUpTo counts now → AreUpTo (counts ++ record { moment = now; amount = amount } ∷ []) now
up_to-append_one counts now amount up_to =
    record {
      in_order = in_order-append_one counts (record { moment = now; amount = amount }) up_to.in_order up_to.none_later;
      none_later = all-append_one (λ count. count.moment ≤ now) counts (record { moment = now; amount = amount }) up_to.none_later (omega arith);
    }

pub counts_go_on : CountsGoOn
counts_go_on = record { counted = up_to-append_one; waited = up_to-later }
