-- On the shards of a table, and their books.
use Rattle.std.proofs.Common.{◌≡◌, ℕ, zero, suc, ◌+◌, ◌*◌, ◌/◌, ◌%◌, ◌≤◌, ◌<◌, ◌⊎◌, inl, inr, ⊎_elim, nat_lt, min, sum_by, cond, Some, List, [], ◌∷◌, length, map, slice_get, slice_set, true, refl, sym, ap, ◌∙◌, subst, arith}
use Rattle.std.specs.Prelude.{◌++◌, is_some, option_map, get_or, Result, Ok, Err, IfOk, IfErr, OnOk, OnErr}
use Rattle.std.specs.List.{range_with_len}
use Rattle.std.proofs.lemmas.Bool.Decides.{nat_tests}
use Rattle.std.proofs.lemmas.Nat.{le-div}
use Rattle.std.proofs.lemmas.List.FromFn.{length-map-range_with_len, map-range_with_len_more}
use Rattle.std.proofs.lemmas.List.Sums.{sum_by-cons}
use Rattle.std.proofs.lemmas.List.{length-set}
use Rattle.std.proofs.lemmas.Option.{slice_get-get_or, slice_get-map}
use Rattle.std.proofs.Math.Nat.{div-add-mod, mod-lt, mul-le-mul_left}
use Rattle.stick_key.specs.Shard.{shard_size}
use Rattle.stick_model.specs.State.{State, key_of}
use Rattle.stick_model.specs.Limits.{IsTableSpec}
use Rattle.stick_model.specs.Refusals.{has_life}
use Rattle.stick_model.specs.declared.rows.Ticket.{Ticket}
use Rattle.stick_model.specs.declared.replies.Refusal.{Refusal}
use Rattle.stick_model.specs.declared.events.Event.{Event}
use Rattle.stick_model.specs.declared.replies.Reply.{Reply}
use Rattle.stick_model.proofs.StepLemmas.{step_spec}
use Rattle.stick_model.specs.declared.specification.Spec.{Spec}
use Rattle.shard_book.specs.BookState.{BookState, IsBook, Extends, IsCallRefused, opened}
use Rattle.shard_book.specs.Keeping.{IsAnswer, part_of}
use Rattle.shard_book.specs.BooksState.{BooksState, AreBooks, ExtendsAt, IsOutAt, IsRefusedAt, LivesAt, SizesLaw, live_states, opened_books}
use Rattle.shard_book.proofs.BookLemmas.{live_limits, one_behind, opened_is_book}

-- ---- sizes

one_more : (share rest a n later : ℕ) → later + min (a + 1) rest ≡ n * share + min (a + 1 + n) rest → share + cond (nat_lt a rest) 1 0 + later + min a rest ≡ suc n * share + min (a + suc n) rest
one_more share rest a n later h = grind (arith, nat_tests)

-- the parts from a shard on: so many shares, and one more for each of these shards that is below the rest
sizes-from : (share rest a n : ℕ) → sum_by (λ i. share + cond (nat_lt i rest) 1 0) (range_with_len a n) + min a rest ≡ n * share + min (a + n) rest
sizes-from share rest a zero = omega arith
sizes-from share rest a (suc n) =
    let part : ℕ → ℕ = λ i. share + cond (nat_lt i rest) 1 0 in
    ap (λ m. m + min a rest) (sum_by-cons part a (range_with_len (a + 1) n)) ∙ one_more share rest a n (sum_by part (range_with_len (a + 1) n)) (sizes-from share rest (a + 1) n)

pub sizes-law : SizesLaw
sizes-law size shards some =
    let all : sum_by (shard_size size shards) (range_with_len 0 shards) + min 0 (size % shards) ≡ shards * (size / shards) + min (0 + shards) (size % shards) = sizes-from (size / shards) (size % shards) 0 shards in
    let whole : shards * (size / shards) + size % shards ≡ size = div-add-mod size shards in
    let below : size % shards < shards = mod-lt size (omega arith) in
    omega arith

-- a shard has a place, and no more than the table
shard_places : (size shards i : ℕ) → 1 ≤ shards → shards ≤ size → (1 ≤ shard_size size shards i) × (shard_size size shards i ≤ size)
shard_places size shards i some places =
    let whole : shards * (size / shards) + size % shards ≡ size = div-add-mod size shards in
    let share : 1 ≤ size / shards = le-div 1 size shards (omega arith) (omega arith) in
    let less : size / shards * 1 ≤ size / shards * shards = mul-le-mul_left (size / shards) some in (
      omega arith,
      bounded (size / shards) (size % shards) shards size i whole less,
    )
  where
    bounded : (share rest shards size i : ℕ) → shards * share + rest ≡ size → share * 1 ≤ share * shards → share + cond (nat_lt i rest) 1 0 ≤ size
    bounded share rest shards size i whole less = grind (arith, nat_tests)

-- a shard's part is a table within the limits
pub part_limits : (spec : Spec) (shards i : ℕ) → IsTableSpec spec → 1 ≤ shards → shards ≤ spec.size → IsTableSpec (part_of spec shards i)
part_limits spec shards i limits some places =
    let part = shard_places spec.size shards i some places in
    record { kind = limits.kind; size = (part.0, omega (arith, part.1, limits.size.1)); expire = limits.expire; purge = limits.purge; max_refs = limits.max_refs; life = limits.life }

-- ---- places of lists

same_some : {X : Type 0} (x y : X) → Some x ≡ Some y → x ≡ y
same_some x y e = cc

range_get : {X : Type 0} (f : ℕ → X) (a n i j : ℕ) (x : X) → a + i ≡ j → slice_get (map f (range_with_len a n)) i ≡ Some x → x ≡ f j
range_get f a zero i j x at e = absurd (cc)
range_get f a (suc n) zero j x at e = let here : a ≡ j = omega arith in sym (same_some (f a) x e) ∙ ap f here
range_get f a (suc n) (suc i) j x at e = range_get f (a + 1) n i j x (omega arith) e

-- the item at a place after a write: that which was written, or the one that was there
get_after_set : {X : Type 0} (xs : List X) (i j : ℕ) (y x : X) → slice_get (slice_set xs i y) j ≡ Some x → ((j ≡ i) × (x ≡ y)) ⊎ (slice_get xs j ≡ Some x)
get_after_set [] i j y x e = inr e
get_after_set (z ∷ xs) zero zero y x e = inl (refl, sym (same_some y x e))
get_after_set (z ∷ xs) zero (suc j) y x e = inr e
get_after_set (z ∷ xs) (suc i) zero y x e = inr e
get_after_set (z ∷ xs) (suc i) (suc j) y x e = ⊎_elim (λ (here : (j ≡ i) × (x ≡ y)). inl (ap suc here.0, here.1)) (λ (there : slice_get xs j ≡ Some x). inr there) (get_after_set xs i j y x e)

-- what is at a place, written back, changes nothing
pub set_same : {X : Type 0} (xs : List X) (i : ℕ) (x : X) → slice_get xs i ≡ Some x → slice_set xs i x ≡ xs
set_same [] i x e = refl
set_same (z ∷ xs) zero x e = ap (λ y. y ∷ xs) (sym (same_some z x e))
set_same (z ∷ xs) (suc i) x e = ap (λ ys. z ∷ ys) (set_same xs i x e)

-- ---- books

pub opened_are_books : (spec : Spec) (shards : ℕ) → IsTableSpec spec → 1 ≤ shards → shards ≤ 64 → shards ≤ spec.size → AreBooks (opened_books spec shards)
opened_are_books spec shards limits some few places =
    let made : ℕ → BookState = λ i. opened (part_of spec shards i) in
    let count : length (map made (range_with_len 0 shards)) ≡ shards = length-map-range_with_len made 0 shards in
    record {
      limits = limits;
      some = omega (arith, count, some);
      few = omega (arith, count, few);
      places = omega (arith, count, places);
      each = λ i book at.
          let is : book ≡ made i = range_get made 0 shards i i book (omega arith) at in
          let made_is : IsBook (made i) = opened_is_book (part_of spec shards i) (part_limits spec shards i limits some places) in
          (subst IsBook (sym is) made_is, ap (λ (b : BookState). b.live.spec) is ∙ ap (λ n. part_of spec n i) (sym count));
    }

-- all shards
pub all_opened : (spec : Spec) (shards n : ℕ) (books : List BookState) → IsTableSpec spec → 1 ≤ shards → shards ≤ 64 → shards ≤ spec.size → n ≡ shards
    → books ≡ map (λ i. opened (part_of spec shards i)) (range_with_len 0 n) → AreBooks (record { spec = spec; books = books })
all_opened spec shards n books limits some few places all are =
    let same : books ≡ map (λ i. opened (part_of spec shards i)) (range_with_len 0 shards) = are ∙ ap (λ m. map (λ i. opened (part_of spec shards i)) (range_with_len 0 m)) all in
    subst (λ (bs : List BookState). AreBooks (record { spec = spec; books = bs })) (sym same) (opened_are_books spec shards limits some few places)

-- one shard more
pub opened_more : (spec part : Spec) (shards n : ℕ) (old new : List BookState) (book : BookState)
    → old ≡ map (λ i. opened (part_of spec shards i)) (range_with_len 0 n) → part ≡ part_of spec shards n → book ≡ opened part → new ≡ old ++ book ∷ []
    → new ≡ map (λ i. opened (part_of spec shards i)) (range_with_len 0 (n + 1))
opened_more spec part shards n old new book were part_is book_is more =
    let made : ℕ → BookState = λ i. opened (part_of spec shards i) in
    let last : book ≡ made n = book_is ∙ ap opened part_is in
    one_behind (map made (range_with_len 0 n)) old new book (made n) more were last ∙ sym (map-range_with_len_more made 0 n n (omega arith))

-- a call more of one book
pub extended_are_books : (spec : Spec) (books : List BookState) (i seat : ℕ) (event : Event) (reply : Reply) (before after : BookState)
    → AreBooks (record { spec = spec; books = books }) → slice_get books i ≡ Some before → Extends before seat event reply after → IsBook after
    → AreBooks (record { spec = spec; books = slice_set books i after })
extended_are_books spec books i seat event reply before after are at extends is =
    let count : length (slice_set books i after) ≡ length books = length-set books i after in
    let made_with : after.live.spec ≡ before.live.spec = step_spec before.live event reply after.live extends.step in
    let was : before.live.spec ≡ part_of spec (length books) i = (are.each i before at).1 in
    record {
      limits = are.limits;
      some = omega (arith, count, are.some);
      few = omega (arith, count, are.few);
      places = omega (arith, count, are.places);
      each = λ j book there.
          ⊎_elim
          (λ (here : (j ≡ i) × (book ≡ after)). (subst IsBook (sym here.1) is, ap (λ (b : BookState). b.live.spec) here.1 ∙ made_with ∙ was ∙ ap (λ n. part_of spec (length books) n) (sym here.0) ∙ ap (λ n. part_of spec n j) (sym count)))
          (λ (other : slice_get books j ≡ Some book). ((are.each j book other).0, (are.each j book other).1 ∙ ap (λ n. part_of spec n j) (sym count)))
          (get_after_set books i j after book there);
    }

-- ---- a call of one book

-- the book at a place
pub book_at : (inside old : BooksState) (i : ℕ) (book : BookState) → inside ≡ old → i < length old.books → book ≡ get_or inside.books i book → slice_get old.books i ≡ Some book
book_at inside old i book same below is = slice_get-get_or old.books i book below ∙ ap Some (sym (is ∙ ap (λ (b : BooksState). get_or b.books i book) same))

live_at : (old : BooksState) (i : ℕ) (before : BookState) → slice_get old.books i ≡ Some before → slice_get (live_states old) i ≡ Some before.live
live_at old i before at = slice_get-map (λ (book : BookState). book.live) old.books i ∙ ap (option_map (λ (book : BookState). book.live)) at

pub called_are_books : (inside old : BooksState) (i seat : ℕ) (event : Event) (result : Result Reply Refusal) (before after : BookState)
    → inside ≡ old → AreBooks inside → slice_get old.books i ≡ Some before
    → IfOk result (λ reply. Extends before seat event reply after) → OnOk result (IsBook after) → OnErr result (after ≡ before)
    → AreBooks (record inside { books = slice_set inside.books i after })
called_are_books inside old i seat event (Ok reply) before after same are at extends is stays =
    extended_are_books inside.spec inside.books i seat event reply before after are (ap (λ (b : BooksState). slice_get b.books i) same ∙ at) extends is
called_are_books inside old i seat event (Err refusal) before after same are at extends is stays =
    let back : slice_set inside.books i after ≡ inside.books = ap (slice_set inside.books i) stays ∙ set_same inside.books i before (ap (λ (b : BooksState). slice_get b.books i) same ∙ at) in
    subst (λ (bs : List BookState). AreBooks (record inside { books = bs })) (sym back) are

pub called_extends : (inside old : BooksState) (i seat : ℕ) (event : Event) (result : Result Reply Refusal) (before after : BookState)
    → inside ≡ old → slice_get old.books i ≡ Some before → IfOk result (λ reply. Extends before seat event reply after)
    → IfOk result (λ reply. ExtendsAt old i seat event reply (record inside { books = slice_set inside.books i after }))
called_extends inside old i seat event (Ok reply) before after same at extends =
    record { before = before; after = after; at = at; extends = extends; others = ap (λ (b : BooksState). record b { books = slice_set b.books i after }) same }
called_extends inside old i seat event (Err refusal) before after same at extends = tt

pub called_lives : (old : BooksState) (i : ℕ) (event : Event) (result : Result Reply Refusal) (before : BookState)
    → slice_get old.books i ≡ Some before → OnOk result (has_life before.live event ≡ true) → OnOk result (LivesAt (live_states old) i event)
called_lives old i event (Ok reply) before at lives = (before.live, live_at old i before at, lives)
called_lives old i event (Err refusal) before at lives = tt

pub called_refused : (old : BooksState) (i : ℕ) (event : Event) (result : Result Reply Refusal) (before : BookState)
    → slice_get old.books i ≡ Some before → IfErr result (IsCallRefused before.live event) → IfErr result (IsRefusedAt (live_states old) i event)
called_refused old i event (Ok reply) before at refused = tt
called_refused old i event (Err refusal) before at refused = (before.live, live_at old i before at, refused)

-- a ticket that is out of the shard is out of its book
pub out_of_book : (old : BooksState) (i : ℕ) (ticket : Ticket) (before : BookState) → slice_get old.books i ≡ Some before → IsOutAt (live_states old) i ticket → is_some (key_of ticket before.live.tickets) ≡ true
out_of_book old i ticket before at out =
    let same : out.0 ≡ before.live = same_some out.0 before.live (sym out.1 ∙ live_at old i before at) in
    subst (λ (live : State). is_some (key_of ticket live.tickets) ≡ true) same out.2

-- ---- what is asked of a shard

pub asked_step : (old new : BooksState) (i seat : ℕ) (event : Event) (result : Result Reply Refusal)
    → AreBooks old → IfOk result (λ reply. ExtendsAt old i seat event reply new) → IfOk result (λ reply. IsAnswer event reply)
asked_step old new i seat event (Ok reply) are extends =
    let book : IsBook extends.before = (are.each i extends.before extends.at).0 in
    record {
      before = extends.before.live;
      after = extends.after.live;
      limits = live_limits extends.before book;
      legal = book.live_legal;
      step = extends.extends.step;
    }
asked_step old new i seat event (Err refusal) are extends = tt
