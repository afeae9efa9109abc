-- What callers of a table hold who call no more.
use Rattle.std.proofs.Common.{◌≡◌, ◌≢◌, ℕ, zero, suc, ◌+◌, ◌≤◌, ◌<◌, refl, sym, ap, subst, ◌∙◌, arith, Bool, true, false, cond, nat_eq, inl, inr, List, [], ◌∷◌, ◌++◌, length, length-append, map, count_by}
use Rattle.std.specs.List.{AllByRecursion}
use Rattle.std.proofs.lemmas.Bool.{cases_Bool}
use Rattle.std.proofs.lemmas.Bool.Decides.{nat_tests}
use Rattle.std.proofs.lemmas.List.Sums.{sum_by-cons}
use mathlib.Core.List.{IsPrefix}
use Rattle.stick_model.specs.Key.{Key, same_key}
use Rattle.stick_model.specs.declared.rows.Ticket.{Ticket}
use Rattle.stick_model.proofs.KeyLemmas.{same_key-exact}
use Rattle.shard_record.specs.declared.view.Call.{Call}
use Rattle.shard_record.specs.declared.view.Part.{Part}
use Rattle.shard_record.specs.Calls.{Held, passed_in}
use Rattle.shard_record.specs.Dealing.{SeesAll}
use Rattle.shard_record.specs.Parts.{IsCompared, compared, holder, joined, nobody}
use Rattle.shard_record.specs.Views.{AreCompared, View, at, paired}
use Rattle.shard_record.specs.Telling.{IsReference, key_at, log_of, ticket_at}
use Rattle.shard_record.proofs.OneKey.{one_key-law}
use Rattle.shard_record.proofs.Records.{passed_later}
use Rattle.shard_record.proofs.Views.{at_map, at_paired, at_put, at_put_else}
use Rattle.shard_locks.specs.Holding.{HavePassed, HoldsPassed, count_held, held_on, sum_to}
use Rattle.shard_locks.specs.Shared.{AreNumbered, KnowsKey, WasOut}
use Rattle.shard_locks.specs.ShardsState.{ShardsState, book_of}
use Rattle.shard_locks.proofs.KeyLemmas.{was_later}

-- ---- what callers hold

none_passed : (limit : ℕ) (part : Part) → part.held ≡ [] → HavePassed limit part
none_passed limit part none = record {
  passed = subst (λ (hs : List Held). AllByRecursion (λ (held : Held). passed_in held.1 limit part.log held ≡ true) hs) (sym none) tt;
  within = λ key most. subst (λ (hs : List Held). count_by (passed_in key most part.log) hs ≤ most) (sym none) (omega arith);
}

-- a seat that calls no more holds none
pub seat_holds : (table : ShardsState) (books limit : ℕ) (token : View) → ((shard : ℕ) → shard < table.shards → book_of table shard < books) → SeesAll books token → HoldsPassed table limit token
seat_holds table books limit token inside sees shard below =
    let book = book_of table shard in
    none_passed limit (at book token) (ap (λ (p : Part). p.held) (sees book (inside shard below)))

passed_on : (limit : ℕ) (log later : List Call) (held : List Held) → IsPrefix log later → AllByRecursion (λ (x : Held). passed_in x.1 limit log x ≡ true) held → AllByRecursion (λ (x : Held). passed_in x.1 limit later x ≡ true) held
passed_on limit log later [] begins all = tt
passed_on limit log later (x ∷ held) begins all = (passed_later x.1 limit log later x begins all.0, passed_on limit log later held begins all.1)

passed_both : (limit : ℕ) (log : List Call) (held other : List Held) → AllByRecursion (λ (x : Held). passed_in x.1 limit log x ≡ true) held → AllByRecursion (λ (x : Held). passed_in x.1 limit log x ≡ true) other → AllByRecursion (λ (x : Held). passed_in x.1 limit log x ≡ true) (held ++ other)
passed_both limit log [] other all rest = rest
passed_both limit log (x ∷ held) other all rest = (all.0, passed_both limit log held other all.1 rest)

-- two tokens are joined, and of a book that comes to this
joined_at : (book : ℕ) (one other new : View) → new ≡ map compared (paired joined one other) → at book new ≡ compared (joined (at book one) (at book other))
joined_at book one other new both = ap (at book) both ∙ (at_map compared refl book (paired joined one other) ∙ ap compared (at_paired joined refl book one other))

compared_at : (book : ℕ) (one other new : View) → AreCompared (paired joined one other) new → IsCompared (joined (at book one) (at book other)) (at book new)
compared_at book one other new told = subst (λ (p : Part). IsCompared p (at book new)) (at_paired joined refl book one other) (told book)

pub both_hold : (table : ShardsState) (limit : ℕ) (one other new : View) → HoldsPassed table limit one → HoldsPassed table limit other → new ≡ map compared (paired joined one other) → AreCompared (paired joined one other) new → HoldsPassed table limit new
both_hold table limit one other new first second both told shard below =
    let book = book_of table shard in
    let is = compared_at book one other new told in
    let held : (at book new).held ≡ (at book one).held ++ (at book other).held = ap (λ (p : Part). p.held) (joined_at book one other new both) in
    let log = (at book new).log in
    record {
      passed = subst (λ (hs : List Held). AllByRecursion (λ (x : Held). passed_in x.1 limit log x ≡ true) hs) (sym held)
          (passed_both limit log (at book one).held (at book other).held (passed_on limit (at book one).log log (at book one).held is.knew (first shard below).passed) (passed_on limit (at book other).log log (at book other).held is.told (second shard below).passed));
      within = is.within;
    }

-- ---- a reference that has passed

same_number : (a b : ℕ) → nat_eq a b ≡ true → a ≡ b
same_number a b is = grind (arith, nat_tests)

other_number : (a b : ℕ) → nat_eq a b ≡ false → a ≢ b
other_number a b is same = absurd (grind (arith, nat_tests))

pub reference_holds : (table : ShardsState) (books limit of : ℕ) (ticket : Ticket) (key : Key) (seat token new : View) → ((shard : ℕ) → shard < table.shards → book_of table shard < books) → SeesAll books seat
    → IsReference of token → ticket ≡ ticket_at of token → KnowsKey of token → WasOut (log_of of seat) ticket key → passed_in key limit (log_of of seat) (ticket, key) ≡ true
    → new ≡ map compared (paired joined seat token) → AreCompared (paired joined seat token) new → HoldsPassed table limit new
reference_holds table books limit of ticket key seat token new inside sees is same knows was passed both told shard below =
    elim (cases_Bool (nat_eq (book_of table shard) of)) [
      | inl this ↦ subst (λ n. HavePassed limit (at n new)) (sym (same_number (book_of table shard) of this)) (here (subst (λ n. (at n seat).held ≡ []) (same_number (book_of table shard) of this) (none (book_of table shard) (inside shard below))))
      | inr not_this ↦ there (book_of table shard) (other_number (book_of table shard) of not_this) (none (book_of table shard) (inside shard below))
    ]
  where
    none : (book : ℕ) → book < books → (at book seat).held ≡ []
    none book few = ap (λ (p : Part). p.held) (sees book few)

    there : (book : ℕ) → book ≢ of → (at book seat).held ≡ [] → HavePassed limit (at book new)
    there book apart empty =
        let part : Part = holder (log_of of token) ((ticket_at of token, key_at of token) ∷ []) in
        let nothing : at book token ≡ nobody = ap (at book) is ∙ at_put_else of book part [] apart in
        let held : (at book new).held ≡ [] = ap (λ (p : Part). p.held) (joined_at book seat token new both) ∙ (λ i. empty i ++ (nothing i).held) in
        none_passed limit (at book new) held

    here : (at of seat).held ≡ [] → HavePassed limit (at of new)
    here empty =
        let one : Held = (ticket_at of token, key_at of token) in
        let part : Part = holder (log_of of token) (one ∷ []) in
        let its : at of token ≡ part = ap (at of) is ∙ at_put of part [] in
        let log = (at of new).log in
        let told_so = compared_at of seat token new told in
        let held : (at of new).held ≡ one ∷ [] = ap (λ (p : Part). p.held) (joined_at of seat token new both) ∙ (λ i. empty i ++ (its i).held) in
        let by_seat : WasOut log ticket key = was_later (log_of of seat) log ticket key told_so.knew was in
        let by_token : WasOut log (ticket_at of token) (key_at of token) = was_later (log_of of token) log (ticket_at of token) (key_at of token) told_so.told knows in
        let by_it : WasOut log ticket (key_at of token) = subst (λ t. WasOut log t (key_at of token)) (sym same) by_token in
        let one_key : key_at of token ≡ key = one_key-law log by_seat.0 by_it.0 ticket key (key_at of token) told_so.history by_seat.1 by_it.1 by_seat.2 by_it.2 in
        let then : passed_in key limit log (ticket, key) ≡ true = passed_later key limit (log_of of seat) log (ticket, key) told_so.knew passed in
        let its_own : passed_in one.1 limit log one ≡ true = subst (λ (x : Ticket × Key). passed_in x.1 limit log x ≡ true) (λ i. (same i, sym one_key i)) then in
        record {
          passed = subst (λ (hs : List Held). AllByRecursion (λ (x : Held). passed_in x.1 limit log x ≡ true) hs) (sym held) (its_own, tt);
          within = told_so.within;
        }

-- ---- how many of a key are held

one_of : (key other : Key) (limit : ℕ) (log : List Call) (ticket : Ticket) → passed_in other limit log (ticket, other) ≡ true → cond (same_key key other) 1 0 ≤ cond (passed_in key limit log (ticket, other)) 1 0
one_of key other limit log ticket passed =
    elim (same_key key other) as (λ b. same_key key other ≡ b → cond b 1 0 ≤ cond (passed_in key limit log (ticket, other)) 1 0) [
      | true ↦ λ is.
          let yes : passed_in key limit log (ticket, other) ≡ true = subst (λ k. passed_in k limit log (ticket, other) ≡ true) (sym (same_key-exact key other is)) passed in
          let one : ◌≡◌ {A = ℕ} (cond (passed_in key limit log (ticket, other)) 1 0) 1 = ap (λ (b : Bool). cond {A = ℕ} b 1 0) yes in
          omega (arith, one)
      | false ↦ λ differ. omega arith
    ] refl

count_passed : (key : Key) (limit : ℕ) (log : List Call) (held : List Held) → AllByRecursion (λ (x : Held). passed_in x.1 limit log x ≡ true) held → count_by (λ (x : Held). same_key key x.1) held ≤ count_by (passed_in key limit log) held
count_passed key limit log [] all = omega arith
count_passed key limit log (x ∷ held) all =
    omega (arith, one_of key x.1 limit log x.0 all.0, count_passed key limit log held all.1, sum_by-cons (λ (y : Held). cond (same_key key y.1) 1 0) x held, sum_by-cons (λ (y : Held). cond (passed_in key limit log y) 1 0) x held)

-- of what callers hold who have all passed, at most so many are of a key
pub holds_few : (table : ShardsState) (limit : ℕ) (token : View) → HoldsPassed table limit token → (shard : ℕ) → shard < table.shards → (key : Key) → held_on table shard key token ≤ limit
holds_few table limit token holds shard below key =
    let part = at (book_of table shard) token in
    let has = holds shard below in
    omega (arith, count_passed key limit part.log part.held has.passed, has.within key limit)

-- ---- the numbers of a table's books

pub books_inside : (inside now : ShardsState) (books : ℕ) → inside ≡ now → AreNumbered inside.first inside.shards books → (shard : ℕ) → shard < now.shards → book_of now shard < books
books_inside inside now books same are shard below =
    let first : inside.first ≡ now.first = ap (λ (table : ShardsState). table.first) same in
    let shards : inside.shards ≡ now.shards = ap (λ (table : ShardsState). table.shards) same in
    omega (arith, first, shards, below, are.within)

-- ---- how many are held

sum_none : (n : ℕ) (f : ℕ → ℕ) → ((i : ℕ) → i < n → f i ≡ 0) → sum_to n f ≡ 0
sum_none zero f none = refl
sum_none (suc n) f none = omega (arith, sum_none n f (λ i less. none i (omega (arith, less))), none n (omega arith))

sum_one : (n k : ℕ) (f : ℕ → ℕ) → k < n → f k ≡ 1 → ((i : ℕ) → i < n → i ≢ k → f i ≡ 0) → sum_to n f ≡ 1
sum_one zero k f less one none = absurd (omega (arith, less))
sum_one (suc n) k f less one none =
    elim (cases_Bool (nat_eq n k)) [
      | inl this ↦ last (same_number n k this)
      | inr not_this ↦ before (λ earlier. sum_one n k f earlier one (λ i below. none i (omega (arith, below)))) (other_number n k not_this)
    ]
  where
    apart : (i : ℕ) → i < n → n ≡ k → i ≢ k
    apart i below same is = absurd (omega (arith, below, same, is))

    last : n ≡ k → sum_to n f + f n ≡ 1
    last same = let here : f n ≡ 1 = ap f same ∙ one in omega (arith, here, sum_none n f (λ i below. none i (omega (arith, below)) (apart i below same)))

    not_last : n ≢ k → k < n
    not_last differ = elim (cases_Bool (nat_eq k n)) [
      | inl so ↦ absurd (differ (sym (same_number k n so)))
      | inr not_so ↦ grind (arith, nat_tests, less, not_so)
    ]

    before : (k < n → sum_to n f ≡ 1) → n ≢ k → sum_to n f + f n ≡ 1
    before rest differ = omega (arith, none n (omega arith) differ, rest (not_last differ))

sum_both : (n : ℕ) (f g h : ℕ → ℕ) → ((i : ℕ) → i < n → f i ≡ g i + h i) → sum_to n f ≡ sum_to n g + sum_to n h
sum_both zero f g h both = refl
sum_both (suc n) f g h both = omega (arith, sum_both n f g h (λ i less. both i (omega (arith, less))), both n (omega arith))

pub none_count : (table : ShardsState) (books : ℕ) (token : View) → ((shard : ℕ) → shard < table.shards → book_of table shard < books) → SeesAll books token → count_held table token ≡ 0
none_count table books token inside sees =
    sum_none table.shards (λ shard. length (at (book_of table shard) token).held) (λ shard below. ap (λ (p : Part). length p.held) (sees (book_of table shard) (inside shard below)))

pub both_count : (table : ShardsState) (one other new : View) → new ≡ map compared (paired joined one other) → count_held table new ≡ count_held table one + count_held table other
both_count table one other new both =
    sum_both table.shards (λ shard. length (at (book_of table shard) new).held) (λ shard. length (at (book_of table shard) one).held) (λ shard. length (at (book_of table shard) other).held)
    (λ shard below. ap (λ (p : Part). length p.held) (joined_at (book_of table shard) one other new both) ∙ length-append (at (book_of table shard) one).held (at (book_of table shard) other).held)

pub reference_count : (table : ShardsState) (books of place : ℕ) (seat token new : View) → ((shard : ℕ) → shard < table.shards → book_of table shard < books) → SeesAll books seat
    → IsReference of token → of ≡ book_of table place → place < table.shards → new ≡ map compared (paired joined seat token) → count_held table new ≡ 1
reference_count table books of place seat token new inside sees is numbered there both =
    let its : count_held table token ≡ 1 = sum_one table.shards place (λ shard. length (at (book_of table shard) token).held) there here else in
    omega (arith, both_count table seat token new both, none_count table books seat inside sees, its)
  where
    part : Part
    part = holder (log_of of token) ((ticket_at of token, key_at of token) ∷ [])

    here : length (at (book_of table place) token).held ≡ 1
    here = ap (λ n. length (at n token).held) (sym numbered) ∙ (ap (λ (v : View). length (at of v).held) is ∙ ap (λ (p : Part). length p.held) (at_put of part []))

    differs : (shard : ℕ) → shard ≢ place → book_of table shard ≢ of
    differs shard apart same = apart (omega (arith, same, numbered))

    else : (shard : ℕ) → shard < table.shards → shard ≢ place → length (at (book_of table shard) token).held ≡ 0
    else shard below apart = ap (λ (v : View). length (at (book_of table shard) v).held) is ∙ ap (λ (p : Part). length p.held) (at_put_else of (book_of table shard) part [] (differs shard apart))
