-- Each step of a token keeps the rule of a book's record.
use Rattle.std.proofs.Common.{◌≡◌, ◌≢◌, ℕ, zero, suc, ◌+◌, ◌≤◌, ◌<◌, nat_le, nat_eq, List, [], ◌∷◌, ◌++◌, length, set, Bool, true, false, cond, true≢false, refl, sym, ap, ◌∙◌, subst, ◌⊎◌, inl, inr, ⊎_elim, arith, sum_by, map, count_by}
use Rattle.std.proofs.lemmas.Bool.Decides.{nat_tests}
use Rattle.std.proofs.lemmas.List.Sums.{sum_by-append, sum_by-cons}
use Rattle.std.specs.List.{IsDistinct}
use mathlib.Core.Option.{some, some-ne-none, some-injective}
use mathlib.Core.List.{IsPrefix}
use lib.ListN.{get_elem?}
use Rattle.atomic_table.proofs.Lists.{at_set}
use Rattle.stick_model.specs.Legal.{number_in}
use Rattle.stick_model.specs.declared.events.Event.{Event}
use Rattle.stick_model.specs.declared.replies.Reply.{Reply}
use Rattle.shard_record.specs.declared.view.Call.{Call}
use Rattle.shard_record.specs.declared.view.Caller.{Caller}
use Rattle.shard_record.specs.declared.view.Part.{Part}
use Rattle.shard_record.specs.Calls.{Held, IsHistoryOf, call, out, passed_in}
use Rattle.shard_record.specs.Parts.{AreTheirs, Fits, IsCompared, IsWithin, Kept, MayAppend, appended, caller, caller_number, compared, is_caller, joined, longer, nobody, seats_of, total, weight}
use Rattle.shard_record.proofs.Callers.{count_both, count_called, theirs_both, theirs_other, theirs_own}
use Rattle.shard_record.proofs.Beginnings.{begins_further, begins_itself, begins_no_longer, begins_the_longer}
use Rattle.shard_record.proofs.Records.{count_more, history_legal, history_more, history_out, history_part, out_more, passed_later, record_limit}
use Rattle.shard_record.proofs.Tickets.{weigh_told}

-- ---- totals

pub total_set : (f : Part → ℕ) (parts : List Part) (by : ℕ) (v w : Part) → get_elem? parts by ≡ some v → total f (set parts by w) + f v ≡ total f parts + f w
total_set f [] by v w at = absurd (some-ne-none v (sym at))
total_set f (u ∷ parts) zero v w at = let is : f u ≡ f v = ap f (some-injective u v at) in omega (arith, is)
total_set f (u ∷ parts) (suc by) v w at = omega (arith, total_set f parts by v w at)

pub total_snoc : (f : Part → ℕ) (parts : List Part) (w : Part) → total f (parts ++ w ∷ []) ≡ total f parts + f w
total_snoc f [] w = omega arith
total_snoc f (u ∷ parts) w = omega (arith, total_snoc f parts w)

pub total_at : (f : Part → ℕ) (parts : List Part) (by : ℕ) (v : Part) → get_elem? parts by ≡ some v → f v ≤ total f parts
total_at f [] by v at = absurd (some-ne-none v (sym at))
total_at f (u ∷ parts) zero v at = let is : f u ≡ f v = ap f (some-injective u v at) in omega (arith, is)
total_at f (u ∷ parts) (suc by) v at = omega (arith, total_at f parts by v at)

-- two of them
total_two : (f : Part → ℕ) (parts : List Part) (by other : ℕ) (v u : Part) → other ≢ by → get_elem? parts by ≡ some v → get_elem? parts other ≡ some u → f v + f u ≤ total f parts
total_two f [] by other v u apart at there = absurd (some-ne-none v (sym at))
total_two f (p ∷ parts) zero zero v u apart at there = absurd (apart refl)
total_two f (p ∷ parts) zero (suc other) v u apart at there = let is : f p ≡ f v = ap f (some-injective p v at) in omega (arith, is, total_at f parts other u there)
total_two f (p ∷ parts) (suc by) zero v u apart at there = let is : f p ≡ f u = ap f (some-injective p u there) in omega (arith, is, total_at f parts by v at)
total_two f (p ∷ parts) (suc by) (suc other) v u apart at there = omega (arith, total_two f parts by other v u (λ e. apart (ap suc e)) at there)

-- ---- each part

fits_set : (kept_by : ℕ) (log : List Call) (parts : List Part) (by : ℕ) (w : Part) → ((j : ℕ) (u : Part) → j ≢ by → get_elem? parts j ≡ some u → Fits kept_by log j u) → Fits kept_by log by w → (j : ℕ) (u : Part) → get_elem? (set parts by w) j ≡ some u → Fits kept_by log j u
fits_set kept_by log parts by w others mine j u e =
    ⊎_elim
    (λ (x : (j ≡ by) × (w ≡ u)). subst (λ (y : ℕ × Part). Fits kept_by log y.0 y.1) (λ i. (sym x.0 i, x.1 i)) mine)
    (λ (x : (j ≢ by) × (get_elem? parts j ≡ some u)). others j u x.0 x.1)
    (at_set parts by j w u e)

off : false ≡ true → ⊥
off e = true≢false (sym e)

-- ---- a call

module _ (by : ℕ) (v : Part) (event : Event) (reply : Reply) (may : MayAppend v event reply) (parts : List Part) (kept : Kept parts) (at : get_elem? parts by ≡ some v) where
  abbrev seat : ℕ
  seat = caller_number v.callers

  abbrev w : Part
  w = appended event reply v

  abbrev log : List Call
  log = kept.log ++ call seat event reply ∷ []

  mine : (by ≡ kept.kept_by) × (v.log ≡ kept.log)
  mine = (kept.fits by v at).keeps may.keeps

  called : seats_of seat v ≡ 1
  called =
      let one : seats_of seat v ≡ count_by (is_caller seat) (caller seat may.mine ∷ []) = ap (count_by (is_caller seat)) may.caller in
      let yes : ◌≡◌ {A = ℕ} (cond (nat_eq seat seat) 1 0) 1 = ap (λ (b : Bool). cond {A = ℕ} b 1 0) (same seat) in
      omega (arith, one, yes, sum_by-cons (λ (c : Caller). cond (is_caller seat c) 1 0) (caller seat may.mine) [])
    where
      same : (n : ℕ) → nat_eq n n ≡ true
      same n = grind (arith, nat_tests)

  others : (j : ℕ) (u : Part) → j ≢ by → get_elem? parts j ≡ some u → Fits kept.kept_by log j u
  others j u apart e = let f = kept.fits j u e in record {
    keeps = λ k. absurd (apart ((f.keeps k).0 ∙ sym mine.0));
    begins = begins_further u.log kept.log log f.begins (call seat event reply ∷ [], refl);
    told = begins_further u.told kept.log log f.told (call seat event reply ∷ [], refl);
    mine = theirs_other seat event reply kept.log u.callers (omega (arith, called, kept.single seat, total_two (seats_of seat) parts by j v u apart at e)) f.mine;
  }

  own : Fits kept.kept_by log by w
  own = record {
    keeps = λ _. (mine.0, ap (λ l. l ++ call seat event reply ∷ []) mine.1);
    begins = subst (λ l. IsPrefix l log) (sym (ap (λ l. l ++ call seat event reply ∷ []) mine.1)) (begins_itself log);
    told = begins_further v.told kept.log log (kept.fits by v at).told (call seat event reply ∷ [], refl);
    mine = theirs_own seat event reply kept.log may.mine v.callers may.caller (kept.fits by v at).mine;
  }

  was : IsHistoryOf kept.log may.live
  was = subst (λ l. IsHistoryOf l may.live) mine.1 may.history

  distinct : IsDistinct nat_eq (map number_in (out kept.log))
  distinct = subst (λ ts. IsDistinct nat_eq (map number_in ts)) (history_out kept.log may.live was) (history_legal kept.log may.live was).numbers_differ

  some_out : (g : Held → ℕ) → sum_by g v.held ≤ sum_by g (out kept.log)
  some_out g = omega (arith, total_at (weight g) parts by v at, kept.balanced g)

  balanced : (h : Held → ℕ) → total (weight h) (set parts by w) ≡ sum_by h (out log)
  balanced h =
      let told = weigh_told event reply v.held (out kept.log) h may.owns distinct some_out in
      let more = ap (sum_by h) (out_more [] kept.log (call seat event reply)) in
      omega (arith, total_set (weight h) parts by v w at, kept.balanced h, told, more)

  pub appends_kept : Kept (set parts by w)
  appends_kept = record {
    kept_by = kept.kept_by;
    log = log;
    live = may.next;
    history = history_more kept.log may.live seat event reply may.next was may.answers;
    fits = fits_set kept.kept_by log parts by w others own;
    balanced = balanced;
    single = λ number. omega (arith, total_set (seats_of number) parts by v w at, count_called seat event reply number v.callers, kept.single number);
  }

-- ---- comparing

longer_left : (one other : List Call) → (b : Bool) → nat_le (length other) (length one) ≡ b → length one ≤ length (cond b one other) × (length other ≤ length (cond b one other))
longer_left one other true is = let le : length other ≤ length one = grind (arith, nat_tests) in (omega arith, le)
longer_left one other false is = let lt : length one < length other = grind (arith, nat_tests) in (omega (arith, lt), omega arith)

longer_one : (P : List Call → Type 0) (one other : List Call) → P one → P other → P (longer one other)
longer_one P one other p q = elim (nat_le (length other) (length one)) as (λ b. P (cond b one other)) [ true ↦ p | false ↦ q ]

pub longer_whole : (one other : List Call) → length other ≤ length one → longer one other ≡ one
longer_whole one other le = let is : nat_le (length other) (length one) ≡ true = grind (arith, nat_tests) in ap (λ b. cond b one other) is

module _ (by : ℕ) (v : Part) (parts : List Part) (kept : Kept parts) (at : get_elem? parts by ≡ some v) where
  abbrev known : List Call
  known = longer v.log v.told

  fit : Fits kept.kept_by kept.log by v
  fit = kept.fits by v at

  within_record : IsPrefix known kept.log
  within_record = longer_one (λ l. IsPrefix l kept.log) v.log v.told fit.begins fit.told

  whole : v.keeps ≡ true → known ≡ v.log
  whole k = longer_whole v.log v.told (subst (λ l. length v.told ≤ length l) (sym (fit.keeps k).1) (begins_no_longer v.told kept.log fit.told))

  own_after : Fits kept.kept_by kept.log by (compared v)
  own_after = record {
    keeps = λ k. ((fit.keeps k).0, whole k ∙ (fit.keeps k).1);
    begins = within_record;
    told = (kept.log, refl);
    mine = fit.mine;
  }

  pub compares_kept : Kept (set parts by (compared v))
  compares_kept = record {
    kept_by = kept.kept_by;
    log = kept.log;
    live = kept.live;
    history = kept.history;
    fits = fits_set kept.kept_by kept.log parts by (compared v) (λ j u apart e. kept.fits j u e) own_after;
    balanced = λ h. omega (arith, total_set (weight h) parts by v (compared v) at, kept.balanced h);
    single = λ number. omega (arith, total_set (seats_of number) parts by v (compared v) at, kept.single number);
  }

  within : IsWithin (compared v)
  within key limit =
      let law = record_limit kept.log kept.live key limit kept.history in
      let p = passed_in key limit kept.log in
      let more = count_more (passed_in key limit known) p v.held (λ x. passed_later key limit known kept.log x within_record) in
      let mine = total_at (weight (λ x. cond (p x) 1 0)) parts by v at in
      omega (arith, law, more, mine, kept.balanced (λ x. cond (p x) 1 0))

  lengths : length v.log ≤ length known × (length v.told ≤ length known)
  lengths = longer_left v.log v.told (nat_le (length v.told) (length v.log)) refl

  pub compared_is : IsCompared v (compared v)
  compared_is = record {
    knew = begins_the_longer v.log known kept.log fit.begins within_record lengths.0;
    told = begins_the_longer v.told known kept.log fit.told within_record lengths.1;
    whole = whole;
    history = history_part known kept.log kept.live within_record kept.history;
    within = within;
    out = λ k h. subst (λ l. sum_by h v.held ≤ sum_by h (out l)) (sym (fit.keeps k).1) (omega (arith, total_at (weight h) parts by v at, kept.balanced h));
    mine = λ k. subst (λ l. AreTheirs l v.callers) (sym (fit.keeps k).1) fit.mine;
  }

-- ---- parting and joining

-- one of the two keeps the record, if the whole does
abbrev pub KeepsOne : Part → Part → Part → Type 0
KeepsOne v left right =
    ((left.keeps ≡ v.keeps) × (left.log ≡ v.log) × (right.keeps ≡ false)) ⊎ ((left.keeps ≡ false) × (right.keeps ≡ v.keeps) × (right.log ≡ v.log))

-- what a part knows and has is cut in two
pub record IsCut (v left right : Part) : Type 0 where
  pub keeps : KeepsOne v left right
  pub left_log : IsPrefix left.log v.log
  pub left_told : IsPrefix left.told v.told
  pub right_log : IsPrefix right.log v.log
  pub right_told : IsPrefix right.told v.told
  pub held : (h : Held → ℕ) → sum_by h left.held + sum_by h right.held ≡ sum_by h v.held
  pub seats : (number : ℕ) → seats_of number left + seats_of number right ≡ seats_of number v
  pub left_mine : (log : List Call) → AreTheirs log v.callers → AreTheirs log left.callers
  pub right_mine : (log : List Call) → AreTheirs log v.callers → AreTheirs log right.callers

get_last : (parts : List Part) (w u : Part) (j : ℕ) → get_elem? (parts ++ w ∷ []) j ≡ some u → (get_elem? parts j ≡ some u) ⊎ ((j ≡ length parts) × (w ≡ u))
get_last [] w u zero e = inr (refl, some-injective w u e)
get_last [] w u (suc j) e = absurd (some-ne-none u (sym e))
get_last (p ∷ parts) w u zero e = inl e
get_last (p ∷ parts) w u (suc j) e = ⊎_elim (λ was. inl was) (λ last. inr (ap suc last.0, last.1)) (get_last parts w u j e)

module _ (by : ℕ) (v left right : Part) (cut : IsCut v left right) (parts : List Part) (kept : Kept parts) (at : get_elem? parts by ≡ some v) where
  fit-cut : Fits kept.kept_by kept.log by v
  fit-cut = kept.fits by v at

  abbrev after-cut : List Part
  after-cut = set parts by left ++ right ∷ []

  left_begins : IsPrefix left.log kept.log
  left_begins = begins_further left.log v.log kept.log cut.left_log fit-cut.begins

  left_told : IsPrefix left.told kept.log
  left_told = begins_further left.told v.told kept.log cut.left_told fit-cut.told

  right_begins : IsPrefix right.log kept.log
  right_begins = begins_further right.log v.log kept.log cut.right_log fit-cut.begins

  right_told : IsPrefix right.told kept.log
  right_told = begins_further right.told v.told kept.log cut.right_told fit-cut.told

  -- the record is kept by some token, as each token fits it
  abbrev Fitting : ℕ → Type 0
  Fitting kept_by = (j : ℕ) (u : Part) → get_elem? after-cut j ≡ some u → Fits kept_by kept.log j u

  pieces : (kept_by : ℕ) → ((j : ℕ) (u : Part) → j ≢ by → get_elem? parts j ≡ some u → u.keeps ≡ true → (j ≡ kept_by) × (u.log ≡ kept.log)) → (left.keeps ≡ true → (by ≡ kept_by) × (left.log ≡ kept.log))
      → (right.keeps ≡ true → (length (set parts by left) ≡ kept_by) × (right.log ≡ kept.log)) → Fitting kept_by
  pieces kept_by others mine other j u e =
      ⊎_elim
      (λ was. fits_set kept_by kept.log parts by left (λ i y apart e'. let f = kept.fits i y e' in record { keeps = others i y apart e'; begins = f.begins; told = f.told; mine = f.mine })
      (record { keeps = mine; begins = left_begins; told = left_told; mine = cut.left_mine kept.log fit-cut.mine }) j u was)
      (λ (last : (j ≡ length (set parts by left)) × (right ≡ u)). subst (λ (y : ℕ × Part). Fits kept_by kept.log y.0 y.1) (λ i. (sym last.0 i, last.1 i))
      (record { keeps = other; begins = right_begins; told = right_told; mine = cut.right_mine kept.log fit-cut.mine }))
      (get_last (set parts by left) right u j e)

  cut_with : (kept_by : ℕ) → Fitting kept_by → Kept after-cut
  cut_with kept_by fitting = record {
    kept_by = kept_by;
    log = kept.log;
    live = kept.live;
    history = kept.history;
    fits = fitting;
    balanced = λ h. omega (arith, total_snoc (weight h) (set parts by left) right, total_set (weight h) parts by v left at, cut.held h, kept.balanced h);
    single = λ number. omega (arith, total_snoc (seats_of number) (set parts by left) right, total_set (seats_of number) parts by v left at, cut.seats number, kept.single number);
  }

  stays_left : (left.keeps ≡ v.keeps) × (left.log ≡ v.log) × (right.keeps ≡ false) → Kept after-cut
  stays_left is = cut_with kept.kept_by (pieces kept.kept_by (λ j u apart e. (kept.fits j u e).keeps)
      (λ k. let f = fit-cut.keeps (sym is.0 ∙ k) in (f.0, is.1 ∙ f.1)) (λ k. absurd (off (sym is.2 ∙ k))))

  -- where the whole kept it, no other did; where it didn't, the keeper stays
  goes_right : (b : Bool) → v.keeps ≡ b → (left.keeps ≡ false) × (right.keeps ≡ v.keeps) × (right.log ≡ v.log) → Kept after-cut
  goes_right true own is = cut_with (length (set parts by left)) (pieces (length (set parts by left))
      (λ j u apart e k. absurd (apart (((kept.fits j u e).keeps k).0 ∙ sym (fit-cut.keeps own).0))) (λ k. absurd (off (sym is.0 ∙ k))) (λ k. (refl, is.2 ∙ (fit-cut.keeps own).1)))
  goes_right false own is = cut_with kept.kept_by (pieces kept.kept_by (λ j u apart e. (kept.fits j u e).keeps) (λ k. absurd (off (sym is.0 ∙ k))) (λ k. absurd (off (sym own ∙ (sym is.1 ∙ k)))))

  pub cut_kept : Kept after-cut
  cut_kept = ⊎_elim stays_left (goes_right v.keeps refl) cut.keeps

pub joins_kept : (by : ℕ) (v : Part) (other : ℕ) (w : Part) (parts : List Part) → Kept parts → get_elem? parts by ≡ some v → ¬ (other ≡ by) → get_elem? (set parts by (joined v w)) other ≡ some w
    → Kept (set (set parts by (joined v w)) other nobody)
joins_kept by v other w parts kept at apart there =
    let f = kept.fits by v at in
    let was : get_elem? parts other ≡ some w = ⊎_elim (λ (t : (other ≡ by) × (joined v w ≡ w)). absurd (apart t.0)) (λ (t : (other ≢ by) × (get_elem? parts other ≡ some w)). t.1) (at_set parts by other (joined v w) w there) in
    let g = kept.fits other w was in
    let mine : Fits kept.kept_by kept.log by (joined v w) = record { keeps = f.keeps; begins = f.begins; told = g.begins; mine = theirs_both kept.log v.callers w.callers f.mine g.mine } in
    let spent : Fits kept.kept_by kept.log other nobody = record { keeps = λ k. absurd (off k); begins = (kept.log, refl); told = (kept.log, refl); mine = tt } in
    record {
      kept_by = kept.kept_by;
      log = kept.log;
      live = kept.live;
      history = kept.history;
      fits = fits_set kept.kept_by kept.log (set parts by (joined v w)) other nobody (λ j u _ e. fits_set kept.kept_by kept.log parts by (joined v w) (λ i y _ e'. kept.fits i y e') mine j u e) spent;
      balanced = λ h. omega (arith, total_set (weight h) (set parts by (joined v w)) other w nobody there, total_set (weight h) parts by v (joined v w) at, kept.balanced h, sum_by-append h v.held w.held);
      single = λ number. omega (arith, total_set (seats_of number) (set parts by (joined v w)) other w nobody there, total_set (seats_of number) parts by v (joined v w) at, kept.single number, count_both number v.callers w.callers);
    }
