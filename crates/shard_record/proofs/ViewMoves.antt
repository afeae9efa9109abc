-- Each step of a token keeps the rule of the record.
use Rattle.std.proofs.Common.{◌≡◌, ◌≢◌, ℕ, zero, suc, ◌+◌, ◌≤◌, ◌<◌, inl, inr, nat_eq, Bool, true, false, cond, List, [], ◌∷◌, ◌++◌, set, map, sum_by, count_by, refl, sym, ap, ◌∙◌, subst, arith, None, true≢false}
use Rattle.std.specs.List.{range_with_len}
use Rattle.std.proofs.lemmas.Bool.Decides.{nat_tests}
use Rattle.std.proofs.lemmas.List.{map-append, map-set}
use Rattle.std.proofs.lemmas.List.Sums.{sum_by-cons}
use mathlib.Core.Option.{none, some, some-ne-none, some-injective}
use lib.ListN.{get_elem?}
use Rattle.atomic_table.specs.Table.{State as TableState, Allows, Splits, Joins, keeps, step}
use Rattle.atomic_table.proofs.Lists.{set_again}
use Rattle.stick_key.specs.declared.kind.KeyType.TheVariants.{Ip}
use Rattle.stick_model.specs.State.{empty_table}
use Rattle.stick_model.specs.declared.events.Event.{Event}
use Rattle.stick_model.specs.declared.replies.Reply.{Reply}
use Rattle.stick_model.specs.declared.specification.Spec.{Spec}
use Rattle.shard_record.specs.declared.view.Caller.{Caller}
use Rattle.shard_record.specs.declared.view.Part.{Part}
use Rattle.shard_record.specs.Calls.{IsHistoryOf}
use Rattle.shard_record.specs.Parts.{AreTheirs, Fits, IsCompared, Kept, MayAppend, appended, caller, callers_alone, compared, held_alone, is_caller, joined, nobody, seats_of, without_callers, without_held}
use Rattle.shard_record.specs.Views.{Appended, AreKept, Compared, View, at, beginning, book_alone, keeper_alone, keeping, not_keeping, only, opening, paired, parts_at, put, calling, not_calling, seat_alone, without_book, without_keeper, without_seat}
use Rattle.shard_record.proofs.Callers.{count_split, theirs_some}
use Rattle.shard_record.proofs.Moves.{IsCut, appends_kept, compared_is, compares_kept, cut_kept, joins_kept}
use Rattle.shard_record.proofs.Beginnings.{begins_itself}
use Rattle.shard_record.proofs.Views.{at_map, at_paired, at_put, at_put_else, at_views}

abbrev pub Rule : TableState (Unit {0}) View → Type 0
Rule s = AreKept s.views

-- ---- one view is changed

changed : (book : ℕ) (views : List View) (by : ℕ) (w : View) (part : Part) → at book w ≡ part → Kept (set (parts_at book views) by part) → Kept (parts_at book (set views by w))
changed book views by w part is kept = subst Kept (ap (set (parts_at book views) by) (sym is) ∙ sym (map-set (at book) views by w)) kept

unchanged : (book : ℕ) (views : List View) (by : ℕ) (v w : View) → get_elem? views by ≡ some v → at book w ≡ at book v → Kept (parts_at book views) → Kept (parts_at book (set views by w))
unchanged book views by v w there is kept =
    changed book views by w (at book v) is (subst Kept (sym (set_again (parts_at book views) by (at book v) (at_views (at book) views by v there))) kept)

-- ---- a call

append_at : (called : ℕ) (by : ℕ) (v : View) (event : Event) (reply : Reply) → MayAppend (at called v) event reply → (views : List View) → AreKept views → get_elem? views by ≡ some v → (book : ℕ) → (b : Bool) → nat_eq book called ≡ b
    → Kept (parts_at book (set views by (put called (appended event reply (at called v)) v)))
append_at called by v event reply may views kept there book true is =
    let same : called ≡ book = grind (arith, nat_tests) in
    subst (λ k. Kept (parts_at k (set views by (put called (appended event reply (at called v)) v)))) same
    (changed called views by _ (appended event reply (at called v)) (at_put called (appended event reply (at called v)) v)
    (appends_kept by (at called v) event reply may (parts_at called views) (kept called) (at_views (at called) views by v there)))
append_at called by v event reply may views kept there book false is =
    unchanged book views by v _ there (at_put_else called book _ v (λ e. true≢false (sym (equal book called e) ∙ is))) (kept book)
  where
    equal : (a b : ℕ) → a ≡ b → nat_eq a b ≡ true
    equal a b e = grind (arith, nat_tests)

pub appends : (called by : ℕ) (v : View) (held : List (ℕ × Unit {0})) (event : Event) (reply : Reply) (slots : ℕ) → MayAppend (at called v) event reply
    → Allows Rule slots by (v, held) 0 (λ n. n) (Appended called event reply (step slots 0 0 0 none) (v, held))
appends called by v held event reply slots may s kept homes there word =
    (put called (appended event reply (at called v)) v, keeps, tt, (λ book. append_at called by v event reply may s.views kept there book (nat_eq book called) refl), (refl, refl))

-- ---- comparing

compare_at : (by : ℕ) (v : View) (views : List View) → AreKept views → get_elem? views by ≡ some v → (book : ℕ) → Kept (parts_at book (set views by (map compared v)))
compare_at by v views kept there book =
    changed book views by (map compared v) (compared (at book v)) (at_map compared refl book v) (compares_kept by (at book v) (parts_at book views) (kept book) (at_views (at book) views by v there))

pub compares : (by : ℕ) (v : View) (held : List (ℕ × Unit {0})) (slots : ℕ) → Allows Rule slots by (v, held) 0 (λ n. n) (Compared (step slots 0 0 0 none) (v, held))
compares by v held slots s kept homes there word = (
  map compared v,
  keeps,
  tt,
  compare_at by v s.views kept there,
  (refl, (λ book. subst (IsCompared (at book v)) (sym (at_map compared refl book v)) (compared_is by (at book v) (parts_at book s.views) (kept book) (at_views (at book) s.views by v there))), refl),
)

-- ---- joining

pub joins : (by : ℕ) (v : View) (other : ℕ) (w : View) → Joins Rule by v other w (paired joined v w) []
joins by v other w s kept there apart at_other = λ book.
    let both : at book (paired joined v w) ≡ joined (at book v) (at book w) = at_paired joined refl book v w in
    let parts = parts_at book s.views in
    let one : set parts by (joined (at book v) (at book w)) ≡ parts_at book (set s.views by (paired joined v w)) = ap (set parts by) (sym both) ∙ sym (map-set (at book) s.views by (paired joined v w)) in
    let there_other : get_elem? (set parts by (joined (at book v) (at book w))) other ≡ some (at book w) = subst (λ ps. get_elem? ps other ≡ some (at book w)) (sym one) (at_views (at book) (set s.views by (paired joined v w)) other w at_other) in
    changed book (set s.views by (paired joined v w)) other [] nobody refl
    (subst (λ ps. Kept (set ps other nobody)) one (joins_kept by (at book v) other (at book w) parts (kept book) (at_views (at book) s.views by v there) apart there_other))

-- ---- cutting

-- each book's part is cut
abbrev pub IsCutAll : View → View → View → Type 0
IsCutAll v left right = (book : ℕ) → IsCut (at book v) (at book left) (at book right)

pub cuts : (by : ℕ) (v left right : View) → IsCutAll v left right → Splits Rule by v left right
cuts by v left right cut s kept there = λ book.
    subst Kept (ap (λ ps. ps ++ at book right ∷ []) (sym (map-set (at book) s.views by left)) ∙ sym (map-append (at book) (set s.views by left) (right ∷ [])))
    (cut_kept by (at book v) (at book left) (at book right) (cut book) (parts_at book s.views) (kept book) (at_views (at book) s.views by v there))

-- a cut that leaves all with the one
cut_none : (v : Part) → IsCut v v nobody
cut_none v = record {
  keeps = inl (refl, refl, refl);
  left_log = begins_itself v.log;
  left_told = begins_itself v.told;
  right_log = (v.log, refl);
  right_told = (v.told, refl);
  held = λ h. omega arith;
  seats = λ number. omega arith;
  left_mine = λ log theirs. theirs;
  right_mine = λ log theirs. tt;
}

cut_held : (v : Part) → IsCut v (without_held v) (held_alone v)
cut_held v = record {
  keeps = inl (refl, refl, refl);
  left_log = begins_itself v.log;
  left_told = begins_itself v.told;
  right_log = begins_itself v.log;
  right_told = (v.told, refl);
  held = λ h. omega arith;
  seats = λ number. omega arith;
  left_mine = λ log theirs. theirs;
  right_mine = λ log theirs. tt;
}

cut_callers : (v : Part) → IsCut v (without_callers v) (callers_alone v)
cut_callers v = record {
  keeps = inl (refl, refl, refl);
  left_log = begins_itself v.log;
  left_told = begins_itself v.told;
  right_log = begins_itself v.log;
  right_told = (v.told, refl);
  held = λ h. omega arith;
  seats = λ number. omega arith;
  left_mine = λ log theirs. tt;
  right_mine = λ log theirs. theirs;
}

cut_seat : (number : ℕ) (v : Part) → IsCut v (not_calling number v) (calling number v)
cut_seat number v = record {
  keeps = inl (refl, refl, refl);
  left_log = begins_itself v.log;
  left_told = begins_itself v.told;
  right_log = begins_itself v.log;
  right_told = (v.told, refl);
  held = λ h. omega arith;
  seats = λ other. count_split number other v.callers;
  left_mine = λ log theirs. theirs_some _ log v.callers theirs;
  right_mine = λ log theirs. theirs_some _ log v.callers theirs;
}

-- all of a book goes
cut_all : (v : Part) → IsCut v nobody v
cut_all v = record {
  keeps = inr (refl, refl, refl);
  left_log = (v.log, refl);
  left_told = (v.told, refl);
  right_log = begins_itself v.log;
  right_told = begins_itself v.told;
  held = λ h. omega arith;
  seats = λ number. omega arith;
  left_mine = λ log theirs. tt;
  right_mine = λ log theirs. theirs;
}

cut_keeper : (v : Part) → IsCut v (not_keeping v) (keeping v)
cut_keeper v = record {
  keeps = inr (refl, refl, refl);
  left_log = begins_itself v.log;
  left_told = begins_itself v.told;
  right_log = begins_itself v.log;
  right_told = (v.told, refl);
  held = λ h. omega arith;
  seats = λ number. omega arith;
  left_mine = λ log theirs. theirs;
  right_mine = λ log theirs. tt;
}

-- the same cut of each book
each_cut : (v : View) (f g : Part → Part) → f nobody ≡ nobody → g nobody ≡ nobody → ((part : Part) → IsCut part (f part) (g part)) → IsCutAll v (map f v) (map g v)
each_cut v f g idle nothing cut book = subst (λ (y : Part × Part). IsCut (at book v) y.0 y.1) (λ i. (sym (at_map f idle book v) i, sym (at_map g nothing book v) i)) (cut (at book v))

pub cuts_held : (v : View) → IsCutAll v (map without_held v) (map held_alone v)
cuts_held v = each_cut v without_held held_alone refl refl cut_held

pub cuts_callers : (v : View) → IsCutAll v (map without_callers v) (map callers_alone v)
cuts_callers v = each_cut v without_callers callers_alone refl refl cut_callers

-- a cut of one book alone
one_cut : (of : ℕ) (v : View) (left right : Part) → IsCut (at of v) left right → (book : ℕ) (b : Bool) → nat_eq book of ≡ b → IsCut (at book v) (at book (put of left v)) (at book (only of right))
one_cut of v left right cut book true is =
    let same : of ≡ book = grind (arith, nat_tests) in
    subst (λ k. IsCut (at k v) (at k (put of left v)) (at k (only of right))) same
    (subst (λ (y : Part × Part). IsCut (at of v) y.0 y.1) (λ i. (sym (at_put of left v) i, sym (at_put of right []) i)) cut)
one_cut of v left right cut book false is =
    let apart : book ≢ of = λ e. true≢false (sym (equal book of e) ∙ is) in
    subst (λ (y : Part × Part). IsCut (at book v) y.0 y.1) (λ i. (sym (at_put_else of book left v apart) i, sym (at_put_else of book right [] apart) i)) (cut_none (at book v))
  where
    equal : (a b : ℕ) → a ≡ b → nat_eq a b ≡ true
    equal a b e = grind (arith, nat_tests)

pub cuts_book : (of : ℕ) (v : View) → IsCutAll v (without_book of v) (book_alone of v)
cuts_book of v book = one_cut of v nobody (at of v) (cut_all (at of v)) book (nat_eq book of) refl

pub cuts_keeper : (of : ℕ) (v : View) → IsCutAll v (without_keeper of v) (keeper_alone of v)
cuts_keeper of v book = one_cut of v (not_keeping (at of v)) (keeping (at of v)) (cut_keeper (at of v)) book (nat_eq book of) refl

pub cuts_seat : (of number : ℕ) (v : View) → IsCutAll v (without_seat of number v) (seat_alone of number v)
cuts_seat of number v book = one_cut of v (not_calling number (at of v)) (calling number (at of v)) (cut_seat number (at of v)) book (nat_eq book of) refl

-- ---- the beginning

abbrev callers_from : ℕ → ℕ → List Caller
callers_from first count = map (λ number. caller number []) (range_with_len first count)

theirs_none : (first count : ℕ) → AreTheirs [] (callers_from first count)
theirs_none first zero = tt
theirs_none first (suc count) = (refl, theirs_none (first + 1) count)

-- a number below the first is none of them
below_none : (number first count : ℕ) → number < first → count_by (is_caller number) (callers_from first count) ≡ 0
below_none number first zero below = refl
below_none number first (suc count) below =
    let differ : nat_eq number first ≡ false = grind (arith, nat_tests) in
    let no : ◌≡◌ {A = ℕ} (cond (nat_eq number first) 1 0) 0 = ap (λ (b : Bool). cond {A = ℕ} b 1 0) differ in
    omega (arith, no, below_none number (first + 1) count (omega (arith, below)), sum_by-cons (λ (c : Caller). cond (is_caller number c) 1 0) (caller first []) (callers_from (first + 1) count))

one_each : (number first count : ℕ) → count_by (is_caller number) (callers_from first count) ≤ 1
one_each number first zero = omega arith
one_each number first (suc count) = by_test (one_each number (first + 1) count) (nat_eq number first) refl
  where
    cons : count_by (is_caller number) (callers_from first (suc count)) ≡ cond (is_caller number (caller first [])) 1 0 + count_by (is_caller number) (callers_from (first + 1) count)
    cons = sum_by-cons (λ (c : Caller). cond (is_caller number c) 1 0) (caller first []) (callers_from (first + 1) count)

    by_test : count_by (is_caller number) (callers_from (first + 1) count) ≤ 1 → (b : Bool) → nat_eq number first ≡ b → count_by (is_caller number) (callers_from first (suc count)) ≤ 1
    by_test rest true is =
        let same : number ≡ first = grind (arith, nat_tests) in
        let yes : ◌≡◌ {A = ℕ} (cond (nat_eq number first) 1 0) 1 = ap (λ (b : Bool). cond {A = ℕ} b 1 0) is in
        omega (arith, yes, cons, below_none number (first + 1) count (omega (arith, same)))
    by_test rest false is =
        let no : ◌≡◌ {A = ℕ} (cond (nat_eq number first) 1 0) 0 = ap (λ (b : Bool). cond {A = ℕ} b 1 0) is in
        omega (arith, no, cons, rest)

abbrev some_spec : Spec
some_spec = record { kind = Ip; size = 1; expire = None; nopurge = false; purge = 1; columns = []; max_refs = 1; life = 0; seed = 0 }

some_history : IsHistoryOf [] (empty_table some_spec)
some_history = record {
  start = empty_table some_spec;
  begins = record {
    limits = record { kind = tt; size = (omega arith, omega arith); expire = tt; purge = (omega arith, omega arith); max_refs = (omega arith, omega arith); life = omega arith };
    empty = refl;
  };
  runs = refl;
}

kept_alone : (part : Part) → part.log ≡ [] → part.told ≡ [] → part.held ≡ [] → AreTheirs [] part.callers → ((number : ℕ) → seats_of number part ≤ 1) → Kept (part ∷ [])
kept_alone part log told held theirs single = record {
  kept_by = 0;
  log = [];
  live = empty_table some_spec;
  history = some_history;
  fits = fits;
  balanced = λ h. ap (λ ts. sum_by h ts + 0) held;
  single = λ number. omega (arith, single number);
}
  where
    fits : (by : ℕ) (p : Part) → get_elem? (part ∷ []) by ≡ some p → Fits 0 [] by p
    fits zero p e = subst (Fits 0 [] 0) (some-injective part p e) (record { keeps = λ _. (refl, log); begins = ([], ap (λ l. l ++ []) log); told = ([], ap (λ l. l ++ []) told); mine = theirs })
    fits (suc by) p e = absurd (some-ne-none p (sym e))

begins_at : (seats book : ℕ) (books : List ℕ) → Kept (at book (map (λ n. beginning seats) books) ∷ [])
begins_at seats book [] = kept_alone nobody refl refl refl tt (λ number. omega arith)
begins_at seats zero (n ∷ books) = kept_alone (beginning seats) refl refl refl (theirs_none 0 seats) (λ number. one_each number 0 seats)
begins_at seats (suc book) (n ∷ books) = begins_at seats book books

pub begins : (books seats : ℕ) → AreKept (opening books seats ∷ [])
begins books seats book = begins_at seats book (range_with_len 0 books)
