-- What the shards of a table list together has each key once.
use Rattle.std.proofs.Common.{◌≡◌, ℕ, zero, suc, ◌+◌, ◌<◌, arith, refl, sym, ap, subst, ◌∙◌, Bool, true, false, cond, List, [], ◌∷◌, ◌++◌, filter, map, Option, Some, None, unwrap_or}
use Rattle.std.specs.Prelude.{fold, slice_index_or}
use Rattle.std.specs.Option.{option_map_or}
use Rattle.std.specs.List.{AllByRecursion, IsDistinct, range_with_len}
use Rattle.std.specs.List.Sorted.{IsSortedBy, IsStrictlySortedBy}
use Rattle.std.specs.Cmp.{both_ways}
use Rattle.std.specs.Cmp.Lexicographic.{nat_list_cmp_total}
use Rattle.std.specs.Ordering.{is_lt, is_eq, ordering_reverse}
use Rattle.std.specs.declared.cmp.Ordering.{Ordering}
use Rattle.std.specs.declared.cmp.Ordering.TheVariants.{Less, Equal, Greater}
use Rattle.std.proofs.lemmas.Bool.{false≢true}
use Rattle.std.proofs.lemmas.List.{map-append}
use Rattle.std.proofs.lemmas.List.Sorted.{IsPermutation-map}
use Rattle.std.proofs.lemmas.Map.Keys.{IsDistinct-IsPermutation, IsDistinct-from_sorted}
use Rattle.stick_key.specs.Shard.{shard}
use Rattle.stored_data.specs.declared.field.Field.{Field}
use Rattle.stick_model.specs.Filters.{not_stored, passes}
use Rattle.stick_model.specs.Key.{Key, key_cmp, same_key}
use Rattle.stick_model.specs.Legal.{IsLegal}
use Rattle.stick_model.specs.State.{State, record_at, row, stays}
use Rattle.stick_model.specs.Step.{Outcome, Step, asks_rows, begun, listed, shows_rows, slot_of}
use Rattle.stick_model.specs.declared.events.Event.{Event}
use Rattle.stick_model.specs.declared.events.Event.TheVariants as events
use Rattle.stick_model.specs.declared.filters.Filter.{Filter}
use Rattle.stick_model.specs.declared.replies.Reply.{Reply}
use Rattle.stick_model.specs.declared.replies.Reply.TheVariants as replies
use Rattle.stick_model.specs.declared.rows.Record.{Record}
use Rattle.stick_model.specs.declared.rows.Row.{Row}
use Rattle.stick_model.proofs.EntryLemmas.{sorted-filter}
use Rattle.stick_model.proofs.KeyLemmas.{same_key-exact, same_key-refl}
use Rattle.stick_model.proofs.ReplyLemmas.{rows_told}
use Rattle.shard_book.specs.BooksState.{AreBooks, BooksState}
use Rattle.table_cli.specs.Shards.{AsksInTurn, shards_of}
use Rattle.shard_book.specs.Total.{IsShown, both, total}
use Rattle.stickd_script.specs.Script.{answering, refusing}
use Rattle.stickd_script.proofs.KeyLemmas.{AsksHome, BooksLie, Lies, asks_home_of, extended_lies}
use Rattle.stickd_script.proofs.PlainCommandLemmas.{is_commanded}

abbrev keys_in : List Row → List Key
keys_in rows = map (λ (r : Row). r.key) rows

-- the rows of a reply have each key once, and all such keys
abbrev RowsApart : (Key → Type 0) → Reply → Type 0
RowsApart P (replies.Rows used rows) = IsDistinct same_key (keys_in rows) × AllByRecursion P (keys_in rows)
RowsApart P reply = Unit {0}

-- ---- one shard

all_from : (P : Key → Type 0) (records : List (Key × Record)) → ((key : Key) (found : Record) → record_at key records ≡ Some found → P key) → AllByRecursion P (map (λ (e : Key × Record). e.0) records)
all_from P [] h = tt
all_from P (e ∷ es) h = (h e.0 e.1 (ap (λ b. cond b (Some e.1) (record_at e.0 es)) (same_key-refl e.0)), all_from P es (λ key found is. by key found is (same_key key e.0) refl))
  where
    by : (key : Key) (found : Record) → record_at key es ≡ Some found → (b : Bool) → same_key key e.0 ≡ b → P key
    by key found is true t = h key e.1 (ap (λ b. cond b (Some e.1) (record_at key es)) t)
    by key found is false t = h key found (ap (λ b. cond b (Some e.1) (record_at key es)) t ∙ is)

all_filter : (P : Key → Type 0) (p : Key × Record → Bool) (records : List (Key × Record)) → AllByRecursion P (map (λ (e : Key × Record). e.0) records) → AllByRecursion P (map (λ (e : Key × Record). e.0) (filter p records))
all_filter P p [] all = tt
all_filter P p (e ∷ es) all = by (p e) (all_filter P p es all.1)
  where
    by : (b : Bool) → AllByRecursion P (map (λ (e : Key × Record). e.0) (filter p es)) → AllByRecursion P (map (λ (e : Key × Record). e.0) (cond b (e ∷ filter p es) (filter p es)))
    by true rest = (all.0, rest)
    by false rest = rest

keys_rows : (state : State) (entries : List (Key × Record)) → keys_in (map (λ (e : Key × Record). row state e.0 e.1) entries) ≡ map (λ (e : Key × Record). e.0) entries
keys_rows state [] = refl
keys_rows state (e ∷ es) = ap (λ rest. e.0 ∷ rest) (keys_rows state es)

listed_apart : (shards part : ℕ) (old : State) (now : ℕ) (choice : Filter) → IsLegal old → Lies shards part old → RowsApart (λ key. shard key shards ≡ part) (listed (begun old now) choice)
listed_apart shards part old now choice legal lies =
    let state : State = begun old now in
    let P : Key → Type 0 = λ key. shard key shards ≡ part in
    let entries : List (Key × Record) = filter (passes state.clock state.tickets choice) state.records in
    let sorted = sorted-filter (λ (e : Key × Record). e.0) key_cmp (passes state.clock state.tickets choice) state.records (sorted-filter (λ (e : Key × Record). e.0) key_cmp (stays state.clock old.tickets) old.records legal.keys_rise) in (
      subst (IsDistinct same_key) (sym (keys_rows state entries)) (IsDistinct-from_sorted key_cmp (map (λ (e : Key × Record). e.0) entries) sorted),
      subst (AllByRecursion P) (sym (keys_rows state entries)) (all_filter P (passes state.clock state.tickets choice) state.records (all_filter P (stays state.clock old.tickets) old.records (all_from P old.records lies))),
    )

quiet : (P : Key → Type 0) (reply : Reply) → shows_rows reply ≡ false → RowsApart P reply
quiet P (replies.Rows used rows) none = absurd (false≢true (sym none))
quiet P reply none = tt

replied_apart : (shards part : ℕ) (old : State) (event : Event) (reply : Reply) (new : State) → is_commanded event ≡ true → IsLegal old → Lies shards part old → Step old event reply new → RowsApart (λ key. shard key shards ≡ part) reply
replied_apart shards part old event reply new commanded legal lies step = by event commanded step
  where
    P : Key → Type 0
    P = λ key. shard key shards ≡ part

    silent : (event : Event) → asks_rows event ≡ false → Step old event reply new → RowsApart P reply
    silent event none step = quiet P reply (sym (ap (λ (o : Outcome). shows_rows o.0) step.gives) ∙ rows_told old event (unwrap_or (slot_of reply) 0) none)

    shown_by : (now : ℕ) (choice : Filter) (fault : Option Field) → RowsApart P (option_map_or replies.NotStored fault (listed (begun old now) choice))
    shown_by now choice None = listed_apart shards part old now choice legal lies
    shown_by now choice (Some datum) = tt

    by : (event : Event) → is_commanded event ≡ true → Step old event reply new → RowsApart P reply
    by (events.List now choice) commanded step = subst (RowsApart P) (ap (λ (o : Outcome). o.0) step.gives) (shown_by now choice (not_stored old.spec.columns choice))
    by (events.Put now key pairs) commanded step = silent (events.Put now key pairs) refl step
    by (events.Clear now key) commanded step = silent (events.Clear now key) refl step
    by (events.ClearWhere now choice) commanded step = silent (events.ClearWhere now choice) refl step
    by (events.Expire now) commanded step = silent (events.Expire now) refl step
    by (events.Get now key) commanded step = absurd (false≢true commanded)
    by (events.Track now key) commanded step = absurd (false≢true commanded)
    by (events.Look now ticket) commanded step = absurd (false≢true commanded)
    by (events.Count now ticket act) commanded step = absurd (false≢true commanded)
    by (events.Release now ticket) commanded step = absurd (false≢true commanded)

-- ---- shards together

all_append : {X : Type 0} (P : X → Type 0) (xs ys : List X) → AllByRecursion P xs → AllByRecursion P ys → AllByRecursion P (xs ++ ys)
all_append P [] ys a b = b
all_append P (x ∷ xs) ys a b = (a.0, all_append P xs ys a.1 b)

all_weaker : {X : Type 0} (P Q : X → Type 0) (xs : List X) → ((x : X) → P x → Q x) → AllByRecursion P xs → AllByRecursion Q xs
all_weaker P Q [] f all = tt
all_weaker P Q (x ∷ xs) f all = (f x all.0, all_weaker P Q xs f all.1)

differ : (shards i : ℕ) (x y : Key) → shard x shards < i → shard y shards ≡ i → same_key x y ≡ false
differ shards i x y below at = by (same_key x y) refl
  where
    by : (b : Bool) → same_key x y ≡ b → b ≡ false
    by false is = refl
    by true is = let same : shard x shards ≡ shard y shards = ap (λ k. shard k shards) (same_key-exact x y is) in absurd (omega (arith, same, below, at))

distinct_both : (shards i : ℕ) (xs ys : List Key) → IsDistinct same_key xs → IsDistinct same_key ys → AllByRecursion (λ key. shard key shards < i) xs → AllByRecursion (λ key. shard key shards ≡ i) ys → IsDistinct same_key (xs ++ ys)
unfolding IsDistinct
distinct_both shards i [] ys a b below at = b
distinct_both shards i (x ∷ xs) ys a b below at =
    (all_append (λ y. same_key x y ≡ false) xs ys a.0 (all_weaker (λ key. shard key shards ≡ i) (λ y. same_key x y ≡ false) ys (λ y here. differ shards i x y below.0 here) at), distinct_both shards i xs ys a.1 b below.1 at)

abbrev Below : ℕ → ℕ → Reply → Type 0
Below shards i reply = RowsApart (λ key. shard key shards < i) reply

both_apart : (shards i : ℕ) (first second : Reply) → Below shards i first → RowsApart (λ key. shard key shards ≡ i) second → Below shards (i + 1) (both first second)
both_apart shards i (replies.Rows used rows) (replies.Rows more others) a b =
    let keys : keys_in (rows ++ others) ≡ keys_in rows ++ keys_in others = map-append (λ (r : Row). r.key) rows others in (
      subst (IsDistinct same_key) (sym keys) (distinct_both shards i (keys_in rows) (keys_in others) a.0 b.0 a.1 b.1),
      subst (AllByRecursion (λ key. shard key shards < i + 1)) (sym keys)
          (all_append (λ key. shard key shards < i + 1) (keys_in rows) (keys_in others)
          (all_weaker (λ key. shard key shards < i) (λ key. shard key shards < i + 1) (keys_in rows) (λ key below. omega (arith, below)) a.1)
          (all_weaker (λ key. shard key shards ≡ i) (λ key. shard key shards < i + 1) (keys_in others) (λ key at. omega (arith, at)) b.1)),
    )
both_apart shards i (replies.Rows used rows) second a b = (a.0, all_weaker (λ key. shard key shards < i) (λ key. shard key shards < i + 1) (keys_in rows) (λ key below. omega (arith, below)) a.1)
both_apart shards i (replies.Cleared removed kept) (replies.Cleared more others) a b = tt
both_apart shards i (replies.Cleared removed kept) second a b = tt
both_apart shards i first second a b = tt

abbrev pub Distinct : Reply → Type 0
Distinct (replies.Rows used rows) = IsDistinct same_key (keys_in rows)
Distinct reply = Unit {0}

distinct : (P : Key → Type 0) (reply : Reply) → RowsApart P reply → Distinct reply
distinct P (replies.Rows used rows) apart = apart.0
distinct P reply apart = tt

first_below : (shards i : ℕ) (reply : Reply) → RowsApart (λ key. shard key shards ≡ i) reply → Below shards (i + 1) reply
first_below shards i (replies.Rows used rows) apart = (apart.0, all_weaker (λ key. shard key shards ≡ i) (λ key. shard key shards < i + 1) (keys_in rows) (λ key at. omega (arith, at)) apart.1)
first_below shards i reply apart = tt

module _ (shards : ℕ) (event : Event) (commanded : is_commanded event ≡ true) where
  turn_apart : (i n : ℕ) (old : BooksState) (so_far : Reply) (rest : List Reply) (new : BooksState) → AllByRecursion (AsksHome shards event) (range_with_len i n) → AsksInTurn answering refusing event (range_with_len i n) old rest None new
      → AreBooks old → BooksLie shards old → Below shards i so_far → Distinct (fold both so_far rest)
  turn_apart i zero old so_far [] new home asks are lie apart = distinct (λ key. shard key shards < i) so_far apart
  turn_apart i zero old so_far (reply ∷ rest) new home asks are lie apart = absurd asks
  turn_apart i (suc n) old so_far [] new home asks are lie apart = absurd asks
  turn_apart i (suc n) old so_far (reply ∷ rest) new home asks are lie apart =
      let extends = asks.1.0 in
      let legal : IsLegal extends.before.live = (are.each i extends.before extends.at).0.live_legal in
      let one = replied_apart shards i extends.before.live event reply extends.after.live commanded legal (lie i extends.before extends.at) extends.extends.step in
      turn_apart (i + 1) n asks.0 (both so_far reply) rest new home.1 asks.2 asks.1.1 (extended_lies shards i 0 event reply old asks.0 are lie home.0 extends) (both_apart shards i so_far reply apart one)

  range_apart : (i n : ℕ) (old : BooksState) (rest : List Reply) (new : BooksState) → AllByRecursion (AsksHome shards event) (range_with_len i n) → AsksInTurn answering refusing event (range_with_len i n) old rest None new
      → AreBooks old → BooksLie shards old → Distinct (total rest)
  range_apart i zero old [] new home asks are lie = tt
  range_apart i zero old (reply ∷ rest) new home asks are lie = absurd asks
  range_apart i (suc n) old [] new home asks are lie = absurd asks
  range_apart i (suc n) old (reply ∷ rest) new home asks are lie =
      let extends = asks.1.0 in
      let legal : IsLegal extends.before.live = (are.each i extends.before extends.at).0.live_legal in
      let one = replied_apart shards i extends.before.live event reply extends.after.live commanded legal (lie i extends.before extends.at) extends.extends.step in
      turn_apart (i + 1) n asks.0 reply rest new home.1 asks.2 asks.1.1 (extended_lies shards i 0 event reply old asks.0 are lie home.0 extends) (first_below shards i reply one)

  single_apart : (i : ℕ) (old : BooksState) (rest : List Reply) (new : BooksState) → AllByRecursion (AsksHome shards event) (i ∷ []) → AsksInTurn answering refusing event (i ∷ []) old rest None new → AreBooks old → BooksLie shards old → Distinct (total rest)
  single_apart i old [] new home asks are lie = absurd asks
  single_apart i old (reply ∷ []) new home asks are lie =
      let extends = asks.1.0 in
      let legal : IsLegal extends.before.live = (are.each i extends.before extends.at).0.live_legal in
      distinct (λ key. shard key shards ≡ i) reply (replied_apart shards i extends.before.live event reply extends.after.live commanded legal (lie i extends.before extends.at) extends.extends.step)
  single_apart i old (reply ∷ next ∷ rest) new home asks are lie = absurd asks.2

pub total_apart : (shards count : ℕ) (event : Event) (old : BooksState) (rest : List Reply) (new : BooksState) → count ≡ shards → is_commanded event ≡ true → AsksInTurn answering refusing event (shards_of count event) old rest None new
    → AreBooks old → BooksLie shards old → Distinct (total rest)
total_apart shards count (events.Put now key pairs) old rest new same commanded asks are lie = single_apart shards (events.Put now key pairs) commanded (shard key count) old rest new (asks_home_of shards count (events.Put now key pairs) same commanded) asks are lie
total_apart shards count (events.Clear now key) old rest new same commanded asks are lie = single_apart shards (events.Clear now key) commanded (shard key count) old rest new (asks_home_of shards count (events.Clear now key) same commanded) asks are lie
total_apart shards count (events.ClearWhere now choice) old rest new same commanded asks are lie = range_apart shards (events.ClearWhere now choice) commanded 0 count old rest new (asks_home_of shards count (events.ClearWhere now choice) same commanded) asks are lie
total_apart shards count (events.List now choice) old rest new same commanded asks are lie = range_apart shards (events.List now choice) commanded 0 count old rest new (asks_home_of shards count (events.List now choice) same commanded) asks are lie
total_apart shards count (events.Expire now) old rest new same commanded asks are lie = range_apart shards (events.Expire now) commanded 0 count old rest new (asks_home_of shards count (events.Expire now) same commanded) asks are lie
total_apart shards count (events.Get now key) old rest new same commanded asks are lie = absurd (false≢true commanded)
total_apart shards count (events.Track now key) old rest new same commanded asks are lie = absurd (false≢true commanded)
total_apart shards count (events.Look now ticket) old rest new same commanded asks are lie = absurd (false≢true commanded)
total_apart shards count (events.Count now ticket act) old rest new same commanded asks are lie = absurd (false≢true commanded)
total_apart shards count (events.Release now ticket) old rest new same commanded asks are lie = absurd (false≢true commanded)

-- ---- in order

less_by : (a b : Key) → is_lt (key_cmp b a) ≡ false → same_key a b ≡ false → key_cmp a b ≡ Less
less_by a b not_below other = by (key_cmp a b) refl
  where
    by : (o : Ordering) → key_cmp a b ≡ o → o ≡ Less
    by Less is = refl
    by Equal is = absurd (false≢true (sym other ∙ ap is_eq is))
    by Greater is = absurd (false≢true (sym not_below ∙ ap is_lt (nat_list_cmp_total.antisymm b a ∙ ap ordering_reverse is)))

strict_rows : (rows : List Row) → IsSortedBy (λ (a b : Row). is_lt (key_cmp a.key b.key)) rows → IsDistinct same_key (keys_in rows) → IsStrictlySortedBy key_cmp (keys_in rows)
unfolding IsDistinct IsStrictlySortedBy
strict_rows [] rising apart = tt
strict_rows (a ∷ []) rising apart = (tt, tt)
strict_rows (a ∷ b ∷ rest) rising apart =
    let less : key_cmp a.key b.key ≡ Less = less_by a.key b.key (rising 0 a (omega arith) (omega arith)) apart.0.0 in
    let later : IsSortedBy (λ (x y : Row). is_lt (key_cmp x.key y.key)) (b ∷ rest) = λ k d low high.
    subst (λ n. is_lt (key_cmp (slice_index_or (a ∷ b ∷ rest) n d).key (slice_index_or (b ∷ rest) k d).key) ≡ false) {x = suc k + 1} {y = suc (k + 1)} (omega arith) (rising (suc k) d (omega arith) (omega (arith, high))) in
    let sorted = strict_rows (b ∷ rest) later apart.1 in
    ((less, all_weaker (λ y. key_cmp b.key y ≡ Less) (λ y. key_cmp a.key y ≡ Less) (keys_in rest) (λ y above. nat_list_cmp_total.trans a.key b.key y less above) sorted.0), sorted)

flips : (x y : Key) → same_key x y ≡ same_key y x
flips x y = both_ways (same_key x y) (same_key y x) (λ is. ap (λ k. same_key k x) (sym (same_key-exact x y is)) ∙ same_key-refl x) (λ is. ap (λ k. same_key k y) (sym (same_key-exact y x is)) ∙ same_key-refl y)

abbrev pub Strict : Reply → Type 0
Strict (replies.Rows used rows) = IsStrictlySortedBy key_cmp (keys_in rows)
Strict reply = Unit {0}

pub shown_strict : (reply shown : Reply) → Distinct reply → IsShown reply shown → Strict shown
shown_strict (replies.Rows used rows) (replies.Rows count ordered) apart is =
    strict_rows ordered is.1.rising (IsDistinct-IsPermutation same_key flips (keys_in rows) (keys_in ordered) (IsPermutation-map (λ (r : Row). r.key) rows ordered is.1.same) apart)
shown_strict (replies.Rows used rows) shown apart is = tt
shown_strict reply (replies.Rows count ordered) apart is = cc
shown_strict reply shown apart is = tt
