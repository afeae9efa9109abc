-- Calls against receipts, one by one.
use Rattle.std.proofs.Common.{◌≡◌, ◌≢◌, ℕ, ◌+◌, ◌<◌, ◌≤◌, List, [], ◌∷◌, map, length, get_or, drop, Bool, true, false, cond, nat_eq, Some, refl, sym, ap, ◌∙◌, arith, drop-cons, add-one}
use Rattle.std.specs.Prelude.{slice_get}
use Rattle.std.proofs.Math.ListN.{drop_of_length-le}
use Rattle.std.proofs.lemmas.Bool.{eq-eqb, ne_eqb}
use Rattle.std.proofs.lemmas.Option.{get_or_from_slice_get, slice_get-get_or}
use Rattle.stick_model.specs.declared.replies.Reply.{Reply}
use Rattle.stick_model.specs.declared.replies.Reply.TheVariants.{Absent}
use Rattle.shard_book.specs.declared.recorded.Recorded.{Recorded}
use Rattle.shard_book.specs.BookState.{Answered, answered, of_seat}
use Rattle.shard_book.specs.declared.receipt.Receipt.{Receipt}
use Rattle.shard_book.specs.SeatState.{receipt, receipts_at}
use Rattle.shard_settling.specs.Settled.{receipt_of, told_to}

parts : (x y : Receipt) (xs ys : List Receipt) → x ∷ xs ≡ y ∷ ys → (x ≡ y) × (xs ≡ ys)
parts x y xs ys e = (cc, cc)

not_empty : (x : Receipt) (xs : List Receipt) → x ∷ xs ≡ [] → ⊥
not_empty x xs e = cc

pub at_place : (xs : List Receipt) (i : ℕ) (x : Receipt) → i < length xs → x ≡ get_or xs i x → slice_get xs i ≡ Some x
at_place xs i x below is = slice_get-get_or xs i x below ∙ ap Some (sym is)

-- a reply at a place that is in a list
pub some_reply : (rs : List Reply) (i : ℕ) → i < length rs → (r : Reply) × (i < length rs) × (r ≡ get_or rs i r)
some_reply rs i below =
    let there = slice_get-get_or rs i Absent below in
    (get_or rs i Absent, below, sym (get_or_from_slice_get rs i (get_or rs i Absent) (get_or rs i Absent) there))

-- the rest of a list, from a place that is in it
rest_is : {X : Type 0} (xs : List X) (i : ℕ) (x : X) → i < length xs → x ≡ get_or xs i x → drop i xs ≡ x ∷ drop (i + 1) xs
rest_is xs i x below is = rw add-one (drop-cons xs i x below) ∙ ap (λ y. y ∷ drop (i + 1) xs) (sym is)

-- ---- receipts

receipts-take : (shard : ℕ) (xs : List Receipt) (i : ℕ) (x : Receipt) → i < length xs → x ≡ get_or xs i x → x.shard ≡ shard → receipts_at shard (drop i xs) ≡ x ∷ receipts_at shard (drop (i + 1) xs)
receipts-take shard xs i x below is same =
    ap (receipts_at shard) (rest_is xs i x below is) ∙ ap (λ b. cond b (x ∷ receipts_at shard (drop (i + 1) xs)) (receipts_at shard (drop (i + 1) xs))) (eq-eqb x.shard shard same)

pub receipts-skip : (shard : ℕ) (xs : List Receipt) (i : ℕ) (x : Receipt) → i < length xs → x ≡ get_or xs i x → x.shard ≢ shard → receipts_at shard (drop i xs) ≡ receipts_at shard (drop (i + 1) xs)
receipts-skip shard xs i x below is other =
    ap (receipts_at shard) (rest_is xs i x below is) ∙ ap (λ b. cond b (x ∷ receipts_at shard (drop (i + 1) xs)) (receipts_at shard (drop (i + 1) xs))) (ne_eqb x.shard shard other)

receipts-past : (shard : ℕ) (xs : List Receipt) (i : ℕ) → length xs ≤ i → receipts_at shard (drop i xs) ≡ []
receipts-past shard xs i past = ap (receipts_at shard) (drop_of_length-le xs past)

-- ---- calls

map-cond : (shard : ℕ) (b : Bool) (x : Answered) (xs ys : List Answered) → map (receipt_of shard) (cond b (x ∷ xs) ys) ≡ cond b (receipt_of shard x ∷ map (receipt_of shard) xs) (map (receipt_of shard) ys)
map-cond shard true x xs ys = refl
map-cond shard false x xs ys = refl

told-cons : (shard seat : ℕ) (c : Recorded) (cs : List Recorded) (r : Reply) (rs : List Reply)
    → told_to shard seat (c ∷ cs) (r ∷ rs) ≡ cond (nat_eq c.seat seat) (receipt shard c.stored.event r ∷ told_to shard seat cs rs) (told_to shard seat cs rs)
told-cons shard seat c cs r rs = map-cond shard (nat_eq c.seat seat) (record { call = c; reply = r }) (of_seat seat (answered cs rs)) (of_seat seat (answered cs rs))

told-rest : (shard seat : ℕ) (cs : List Recorded) (rs : List Reply) (i : ℕ) (c : Recorded) (r : Reply) → i < length cs → c ≡ get_or cs i c → i < length rs → r ≡ get_or rs i r
    → told_to shard seat (drop i cs) (drop i rs) ≡ cond (nat_eq c.seat seat) (receipt shard c.stored.event r ∷ told_to shard seat (drop (i + 1) cs) (drop (i + 1) rs)) (told_to shard seat (drop (i + 1) cs) (drop (i + 1) rs))
told-rest shard seat cs rs i c r below is within tells =
    (λ k. told_to shard seat (rest_is cs i c below is k) (rest_is rs i r within tells k)) ∙ told-cons shard seat c (drop (i + 1) cs) r (drop (i + 1) rs)

-- a call of the seat
told-take : (shard seat : ℕ) (cs : List Recorded) (rs : List Reply) (i : ℕ) (c : Recorded) (r : Reply) → i < length cs → c ≡ get_or cs i c → i < length rs → r ≡ get_or rs i r → c.seat ≡ seat
    → told_to shard seat (drop i cs) (drop i rs) ≡ receipt shard c.stored.event r ∷ told_to shard seat (drop (i + 1) cs) (drop (i + 1) rs)
told-take shard seat cs rs i c r below is within tells same =
    told-rest shard seat cs rs i c r below is within tells
    ∙ ap (λ b. cond b (receipt shard c.stored.event r ∷ told_to shard seat (drop (i + 1) cs) (drop (i + 1) rs)) (told_to shard seat (drop (i + 1) cs) (drop (i + 1) rs))) (eq-eqb c.seat seat same)

-- a call of another
pub told-skip : (shard seat : ℕ) (cs : List Recorded) (rs : List Reply) (i : ℕ) (c : Recorded) (r : Reply) → i < length cs → c ≡ get_or cs i c → i < length rs → r ≡ get_or rs i r → c.seat ≢ seat
    → told_to shard seat (drop i cs) (drop i rs) ≡ told_to shard seat (drop (i + 1) cs) (drop (i + 1) rs)
told-skip shard seat cs rs i c r below is within tells other =
    told-rest shard seat cs rs i c r below is within tells
    ∙ ap (λ b. cond b (receipt shard c.stored.event r ∷ told_to shard seat (drop (i + 1) cs) (drop (i + 1) rs)) (told_to shard seat (drop (i + 1) cs) (drop (i + 1) rs))) (ne_eqb c.seat seat other)

-- ---- the next call and the next receipt

-- what is left of both agrees
abbrev pub Agree : ℕ → ℕ → List Recorded → List Reply → List Receipt → ℕ → ℕ → Type 0
Agree shard seat cs rs xs i next = told_to shard seat (drop i cs) (drop i rs) ≡ receipts_at shard (drop next xs)

-- there is a call, and no receipt
pub none_left : (shard seat : ℕ) (cs : List Recorded) (rs : List Reply) (xs : List Receipt) (i next : ℕ) (c : Recorded) (r : Reply) → i < length cs → c ≡ get_or cs i c → i < length rs → r ≡ get_or rs i r → c.seat ≡ seat
    → length xs ≤ next → Agree shard seat cs rs xs i next → ⊥
none_left shard seat cs rs xs i next c r below is within tells same past agree =
    not_empty _ _ (sym (told-take shard seat cs rs i c r below is within tells same) ∙ agree ∙ receipts-past shard xs next past)

pub heads_are : (shard seat : ℕ) (cs : List Recorded) (rs : List Reply) (xs : List Receipt) (i next : ℕ) (c : Recorded) (r : Reply) (x : Receipt) → i < length cs → c ≡ get_or cs i c → i < length rs → r ≡ get_or rs i r → c.seat ≡ seat
    → next < length xs → x ≡ get_or xs next x → x.shard ≡ shard → Agree shard seat cs rs xs i next → ((x.event ≡ c.stored.event) × (x.reply ≡ r)) × Agree shard seat cs rs xs (i + 1) (next + 1)
heads_are shard seat cs rs xs i next c r x below is within tells same in_xs here at agree =
    let both = parts x (receipt shard c.stored.event r) (receipts_at shard (drop (next + 1) xs)) (told_to shard seat (drop (i + 1) cs) (drop (i + 1) rs))
    (sym (receipts-take shard xs next x in_xs here at) ∙ sym agree ∙ told-take shard seat cs rs i c r below is within tells same) in
    ((ap (λ (one : Receipt). one.event) both.0, ap (λ (one : Receipt). one.reply) both.0), sym both.1)

pub heads_join : (shard seat : ℕ) (cs : List Recorded) (rs : List Reply) (xs : List Receipt) (i next : ℕ) (c : Recorded) (r : Reply) (x : Receipt) → i < length cs → c ≡ get_or cs i c → i < length rs → r ≡ get_or rs i r → c.seat ≡ seat
    → next < length xs → x ≡ get_or xs next x → x.shard ≡ shard → x.event ≡ c.stored.event → x.reply ≡ r → Agree shard seat cs rs xs (i + 1) (next + 1) → Agree shard seat cs rs xs i next
heads_join shard seat cs rs xs i next c r x below is within tells same in_xs here at event answer agree =
    let one : receipt shard c.stored.event r ≡ x = λ k. record { shard = sym at k; event = sym event k; reply = sym answer k } in
    told-take shard seat cs rs i c r below is within tells same ∙ (λ k. one k ∷ agree k) ∙ sym (receipts-take shard xs next x in_xs here at)

-- no call is left, and no receipt
pub all_told : (shard seat : ℕ) (cs : List Recorded) (rs : List Reply) (xs : List Receipt) (i next : ℕ) → length cs ≤ i → length xs ≤ next → Agree shard seat cs rs xs i next
all_told shard seat cs rs xs i next done past = ap (λ l. told_to shard seat l (drop i rs)) (drop_of_length-le cs done) ∙ sym (receipts-past shard xs next past)

-- no call is left, and there is a receipt
pub one_left : (shard seat : ℕ) (cs : List Recorded) (rs : List Reply) (xs : List Receipt) (i next : ℕ) → length cs ≤ i → next < length xs → ((one : Receipt) → slice_get xs next ≡ Some one → one.shard ≡ shard) → Agree shard seat cs rs xs i next → ⊥
one_left shard seat cs rs [] i next done in_xs here agree = absurd (omega arith)
one_left shard seat cs rs (x ∷ xs) i next done in_xs here agree =
    let y : Receipt = get_or (x ∷ xs) next x in
    let there : slice_get (x ∷ xs) next ≡ Some y = slice_get-get_or (x ∷ xs) next x in_xs in
    let found : y ≡ get_or (x ∷ xs) next y = sym (get_or_from_slice_get (x ∷ xs) next y y there) in
    not_empty _ _ (sym (receipts-take shard (x ∷ xs) next y in_xs found (here y there)) ∙ sym agree ∙ ap (λ l. told_to shard seat l (drop i rs)) (drop_of_length-le cs done))
