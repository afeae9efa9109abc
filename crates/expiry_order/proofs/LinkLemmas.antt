-- How each change of the links keeps them linked.
use Rattle.std.proofs.Common.{◌≡◌, ◌≢◌, ℕ, zero, suc, ◌<◌, ◌≤◌, ◌^◌, ◌||◌, true≢false, Bool, true, false, eqb, List, [], ◌∷◌, ◌++◌, length, get_or, set, Some, None, slice_get, refl, sym, ap, subst, ◌∙◌, ◌⊎◌, inl, inr, cond, arith, length-set}
use Rattle.std.proofs.lemmas.Bool.{eqb-true, eqb-false, eq-eqb, ne_eqb}
use Rattle.std.proofs.lemmas.List.{get_or-set_same, get_or-set_other}
use Rattle.std.proofs.lemmas.Map.Steps.{length-le_from_distinct_below}
use Rattle.std.specs.List.{IsDistinct, list_any}
use Rattle.expiry_order.specs.declared.Link.{Link}
use Rattle.entry_pool.specs.declared.slot_handle.TheConstants.{NONE}
use Rattle.expiry_order.specs.Links.{link, no_link, walk, slots_from, IsLinked, with_next, with_previous, slot_or_none}
use Rattle.entry_pool.proofs.DistinctSlots.{Off, Off-cut, distinct-push, distinct-cut, distinct-last, distinct-front, distinct-back, distinct-head}

-- a write at a slot that is none of these
pub linked-set : (links : List Link) (at : ℕ) (w : Link) (slots : List ℕ) (before first last after : ℕ) → Off at slots → IsLinked links before first last after slots → IsLinked (set links at w) before first last after slots
linked-set links at w [] before first last after off p = p
linked-set links at w (s ∷ slots) before first last after off p =
    let kept : link (set links at w) s ≡ link links s = get_or-set_other links at s w no_link (λ same. eqb-false at s off.0 (sym same)) in (
      p.0,
      omega (arith, p.1, length-set links at w),
      ap (λ l. l.previous) kept ∙ p.2,
      rw kept (linked-set links at w slots s (link links s).next last after off.1 p.3),
    )

pub linked-join : (links : List Link) (xs ys : List ℕ) (before first middle next last after : ℕ) → IsLinked links before first middle next xs → IsLinked links middle next last after ys → IsLinked links before first last after (xs ++ ys)
linked-join links [] ys before first middle next last after p q =
    subst (λ k. IsLinked links before k last after ys) (sym p.0) (subst (λ k. IsLinked links k next last after ys) p.1 q)
linked-join links (x ∷ xs) ys before first middle next last after p q =
    (p.0, p.1, p.2, linked-join links xs ys x (link links x).next middle next last after p.3 q)

-- the two parts of a list, and the links where they meet
pub record Meets (links : List Link) (xs ys : List ℕ) (before first last after : ℕ) : Type 0 where
  pub middle : ℕ
  pub next : ℕ
  pub left : IsLinked links before first middle next xs
  pub right : IsLinked links middle next last after ys

pub linked-cut : (links : List Link) (xs ys : List ℕ) (before first last after : ℕ) → IsLinked links before first last after (xs ++ ys) → Meets links xs ys before first last after
linked-cut links [] ys before first last after p = record { middle = before; next = first; left = (refl, refl); right = p }
linked-cut links (x ∷ xs) ys before first last after p =
    let on = linked-cut links xs ys x (link links x).next last after p.3 in
    record { middle = on.middle; next = on.next; left = (p.0, p.1, p.2, on.left); right = on.right }

-- a list of links that is not empty, cut before its last slot
pub record LastCut (links : List Link) (slots : List ℕ) (before first last after : ℕ) : Type 0 where
  pub init : List ℕ
  pub previous : ℕ
  pub is : slots ≡ init ++ last ∷ []
  pub left : IsLinked links before first previous last init
  pub inside : last < length links
  pub back_link : (link links last).previous ≡ previous
  pub next_link : (link links last).next ≡ after

pub linked-last : (links : List Link) (slots : List ℕ) (before first last after : ℕ) → IsLinked links before first last after slots
    → ((slots ≡ []) × (first ≡ after) × (last ≡ before)) ⊎ LastCut links slots before first last after
linked-last links [] before first last after p = inl (refl, p.0, p.1)
linked-last links (s ∷ slots) before first last after p =
    elim (linked-last links slots s (link links s).next last after p.3) [
      | inl e ↦ (
          let at : s ≡ last = sym e.2 in
          inr record {
            init = [];
            previous = before;
            is = rw (e.0, at) refl;
            left = (p.0 ∙ at, refl);
            inside = subst (λ k. k < length links) at p.1;
            back_link = subst (λ k. (link links k).previous ≡ before) at p.2;
            next_link = subst (λ k. (link links k).next ≡ after) at e.1;
          })
      | inr c ↦ inr record {
        init = s ∷ c.init;
        previous = c.previous;
        is = ap (λ l. s ∷ l) c.is;
        left = (p.0, p.1, p.2, c.left);
        inside = c.inside;
        back_link = c.back_link;
        next_link = c.next_link;
      }
    ]

abbrev pub Small : List Link → Type 0
Small links = length links ≤ 2 ^ 30

not_none : (links : List Link) (slot : ℕ) → Small links → slot < length links → eqb slot NONE ≡ false
not_none links slot small inside = ne_eqb slot NONE (λ same. omega arith)

pub next-unchanged : (links : List Link) (at next : ℕ) (slots : List ℕ) (before first last after : ℕ) → (at ≢ NONE → Off at slots) → IsLinked links before first last after slots → IsLinked (with_next links at next) before first last after slots
next-unchanged links at next slots before first last after off p = by_test (eqb at NONE) refl
  where
    by_test : (b : Bool) → eqb at NONE ≡ b → IsLinked (cond b links (set links at record { next = next; previous = (link links at).previous })) before first last after slots
    by_test true is = p
    by_test false is = linked-set links at _ slots before first last after (off (eqb-false at NONE is)) p

pub previous-unchanged : (links : List Link) (at previous : ℕ) (slots : List ℕ) (before first last after : ℕ) → (at ≢ NONE → Off at slots) → IsLinked links before first last after slots → IsLinked (with_previous links at previous) before first last after slots
previous-unchanged links at previous slots before first last after off p = by_test (eqb at NONE) refl
  where
    by_test : (b : Bool) → eqb at NONE ≡ b → IsLinked (cond b links (set links at record { next = (link links at).next; previous = previous })) before first last after slots
    by_test true is = p
    by_test false is = linked-set links at _ slots before first last after (off (eqb-false at NONE is)) p

-- the last slot gets another next one
pub left_relinked : (links : List Link) (front : List ℕ) (first last after next : ℕ) → Small links → IsDistinct eqb front → IsLinked links NONE first last after front
    → IsLinked (with_next links last next) NONE (cond (eqb last NONE) next first) last next front
left_relinked links front first last after next small distinct p =
    elim (linked-last links front NONE first last after p) [
      | inl e ↦ (
          let none : last ≡ NONE = e.2 in
          rw (e.0, none) (refl, refl))
      | inr c ↦ (
          let some = not_none links last small c.inside in
          let w : Link = record { next = next; previous = (link links last).previous } in
          let links' = set links last w in
          let apart = distinct-cut c.init [] last (subst (IsDistinct eqb) c.is distinct) in
          let there : link links' last ≡ w = get_or-set_same links last w no_link c.inside in
          let long = length-set links last w in
          rw (some, c.is) (linked-join links' c.init (last ∷ []) NONE first c.previous last last next
          (linked-set links last w c.init NONE first c.previous last apart.before c.left)
          (refl, omega (arith, c.inside), ap (λ l. l.previous) there ∙ c.back_link, (ap (λ l. l.next) there, refl))))
    ]

changed_previous : (links : List Link) (at previous : ℕ) → eqb at NONE ≡ false → with_previous links at previous ≡ set links at record { next = (link links at).next; previous = previous }
changed_previous links at previous some = ap (λ b. cond b links (set links at record { next = (link links at).next; previous = previous })) some

-- the first slot gets another previous one
pub right_relinked : (links : List Link) (back : List ℕ) (before first last previous : ℕ) → Small links → IsDistinct eqb back → IsLinked links before first last NONE back
    → IsLinked (with_previous links first previous) previous first (cond (eqb first NONE) previous last) NONE back
right_relinked links [] before first last previous small distinct p = rw (p.0) (refl, refl)
right_relinked links (y ∷ back) before first last previous small distinct p =
    let w : Link = record { next = (link links y).next; previous = previous } in
    let links' = set links y w in
    let there : link links' y ≡ w = get_or-set_same links y w no_link p.1 in
    let long = length-set links y w in
    let some = not_none links y small p.1 in
    let kept : cond (eqb y NONE) previous last ≡ last = ap (λ b. cond b previous last) some in
    let made : IsLinked links' previous y last NONE (y ∷ back) =
    (refl, omega (arith, p.1), ap (λ l. l.previous) there, rw there (linked-set links y w back y (link links y).next last NONE (distinct-head y back distinct) p.3)) in
    subst (λ f. IsLinked (with_previous links f previous) previous f (cond (eqb f NONE) previous last) NONE (y ∷ back)) (sym p.0)
    (subst (λ ls. IsLinked ls previous y (cond (eqb y NONE) previous last) NONE (y ∷ back)) (sym (changed_previous links y previous some))
    (subst (λ l. IsLinked links' previous y l NONE (y ∷ back)) (sym kept) made))

pub length-with_next : (links : List Link) (at next : ℕ) → length (with_next links at next) ≡ length links
length-with_next links at next = by_test (eqb at NONE)
  where
    by_test : (b : Bool) → length (cond b links (set links at record { next = next; previous = (link links at).previous })) ≡ length links
    by_test true = refl
    by_test false = length-set links at _

pub length-with_previous : (links : List Link) (at previous : ℕ) → length (with_previous links at previous) ≡ length links
length-with_previous links at previous = by_test (eqb at NONE)
  where
    by_test : (b : Bool) → length (cond b links (set links at record { next = (link links at).next; previous = previous })) ≡ length links
    by_test true = refl
    by_test false = length-set links at _

-- a slot joins at the back
pub joined : (links : List Link) (slots : List ℕ) (first last slot : ℕ) → Small links → IsLinked links NONE first last NONE slots → IsDistinct eqb slots → Off slot slots → slot < length links
    → IsLinked (with_next (set links slot record { next = NONE; previous = last }) last slot) NONE (cond (eqb last NONE) slot first) slot NONE (slots ++ slot ∷ [])
joined links slots first last slot small p distinct off inside =
    let w : Link = record { next = NONE; previous = last } in
    let links1 = set links slot w in
    let long = length-set links slot w in
    let there : link (with_next links1 last slot) slot ≡ w = by_test (eqb last NONE) refl in
    let long2 = length-with_next links1 last slot in
    linked-join (with_next links1 last slot) slots (slot ∷ []) NONE (cond (eqb last NONE) slot first) last slot slot NONE
    (left_relinked links1 slots first last NONE slot (omega arith) distinct (linked-set links slot w slots NONE first last NONE off p))
    (refl, omega arith, ap (λ l. l.previous) there, (ap (λ l. l.next) there, refl))
  where
    other : (last ≡ NONE → ⊥) → slot ≢ last
    other some = elim (linked-last links slots NONE first last NONE p) [
      | inl e ↦ absurd (some e.2)
      | inr c ↦ eqb-false slot last (Off-cut slot c.init (last ∷ []) (subst (Off slot) c.is off)).1.0
    ]

    by_test : (b : Bool) → eqb last NONE ≡ b → link (cond b (set links slot record { next = NONE; previous = last }) (set (set links slot record { next = NONE; previous = last }) last record { next = slot; previous = (link (set links slot record { next = NONE; previous = last }) last).previous })) slot ≡ record { next = NONE; previous = last }
    by_test true is = get_or-set_same links slot _ no_link inside
    by_test false is = get_or-set_other _ last slot _ no_link (other (eqb-false last NONE is)) ∙ get_or-set_same links slot _ no_link inside

-- a slot leaves
pub left_out : (links : List Link) (front back : List ℕ) (first last slot : ℕ) → Small links → IsLinked links NONE first last NONE (front ++ slot ∷ back) → IsDistinct eqb (front ++ slot ∷ back)
    → IsLinked (with_previous (with_next links (link links slot).previous (link links slot).next) (link links slot).next (link links slot).previous)
    NONE (cond (eqb (link links slot).previous NONE) (link links slot).next first) (cond (eqb (link links slot).next NONE) (link links slot).previous last) NONE (front ++ back)
left_out links front back first last slot small p distinct =
    let m = linked-cut links front (slot ∷ back) NONE first last NONE p in
    let n = (link links slot).next in
    let apart = distinct-cut front back slot distinct in
    let off_back : m.middle ≢ NONE → Off m.middle back = λ some. elim (linked-last links front NONE first m.middle m.next m.left) [
      | inl e ↦ absurd (some e.2)
      | inr c ↦ (distinct-last c.init back m.middle (subst (λ l. IsDistinct eqb (l ++ back)) c.is apart.rest)).behind
    ] in
    let off_front : n ≢ NONE → Off n front = λ some. by_back back n m.right.3 apart.rest some in
    let links1 = with_next links m.middle n in
    let long = length-with_next links m.middle n in
    let left1 = left_relinked links front first m.middle m.next n small (distinct-front front back apart.rest) m.left in
    let right1 = next-unchanged links m.middle n back slot n last NONE off_back m.right.3 in
    let right2 = right_relinked links1 back slot n last m.middle (omega arith) (distinct-back front back apart.rest) right1 in
    let left2 = previous-unchanged links1 n m.middle front NONE (cond (eqb m.middle NONE) n first) m.middle n off_front left1 in
    rw m.right.2 (linked-join (with_previous links1 n m.middle) front back NONE (cond (eqb m.middle NONE) n first) m.middle n (cond (eqb n NONE) m.middle last) NONE left2 right2)
  where
    by_back : (back : List ℕ) (n : ℕ) → IsLinked links slot n last NONE back → IsDistinct eqb (front ++ back) → n ≢ NONE → Off n front
    by_back [] n p d some = absurd (some p.0)
    by_back (y ∷ ys) n p d some = rw p.0 ((distinct-cut front ys y d).before)

-- what a list of links says of its first slot
pub first_slot : (links : List Link) (slots : List ℕ) (before first last : ℕ) → Small links → IsLinked links before first last NONE slots → slot_or_none first ≡ slice_get slots 0
first_slot links [] before first last small p = ap slot_or_none p.0
first_slot links (s ∷ slots) before first last small p = ap slot_or_none p.0 ∙ ap (λ b. cond b None (Some s)) (not_none links s small p.1)

pub first_inside : (links : List Link) (slots : List ℕ) (before first last : ℕ) → IsLinked links before first last NONE slots → first ≢ NONE → first < length links
first_inside links [] before first last p some = absurd (some p.0)
first_inside links (s ∷ slots) before first last p some = subst (λ k. k < length links) (sym p.0) p.1

pub last_inside : (links : List Link) (slots : List ℕ) (first last after : ℕ) → IsLinked links NONE first last after slots → last ≢ NONE → last < length links
last_inside links slots first last after p some = elim (linked-last links slots NONE first last after p) [ inl e ↦ absurd (some e.2) | inr c ↦ c.inside ]

-- what the links say of a slot of the list
pub record Within (links : List Link) (front back : List ℕ) (slot last : ℕ) : Type 0 where
  pub inside : slot < length links
  pub previous : (link links slot).previous ≢ NONE → (link links slot).previous < length links
  pub behind : IsLinked links slot (link links slot).next last NONE back

pub within : (links : List Link) (front back : List ℕ) (first last slot : ℕ) → IsLinked links NONE first last NONE (front ++ slot ∷ back) → Within links front back slot last
within links front back first last slot p =
    let m = linked-cut links front (slot ∷ back) NONE first last NONE p in
    record {
      inside = m.right.1;
      previous = λ some. subst (λ k. k < length links) (sym m.right.2) (last_inside links front first m.middle m.next m.left (λ none. some (m.right.2 ∙ none)));
      behind = m.right.3;
    }

all_inside : (links : List Link) (slots : List ℕ) (before first last after : ℕ) → IsLinked links before first last after slots → (q : ℕ) → list_any (eqb q) slots ≡ true → q < length links
all_inside links [] before first last after p q is = absurd (true≢false (sym is))
all_inside links (s ∷ slots) before first last after p q is = by_test (λ there. all_inside links slots s (link links s).next last after p.3 q there) (eqb q s) refl is
  where
    by_test : (list_any (eqb q) slots ≡ true → q < length links) → (b : Bool) → eqb q s ≡ b → (b || list_any (eqb q) slots) ≡ true → q < length links
    by_test on true same there = subst (λ k. k < length links) (sym (eqb-true q s same)) p.1
    by_test on false other there = on there

-- distinct slots are no more than the links
pub slots_fit : (links : List Link) (slots : List ℕ) (before first last after : ℕ) → IsDistinct eqb slots → IsLinked links before first last after slots → length slots ≤ length links
slots_fit links slots before first last after distinct p =
    length-le_from_distinct_below slots (length links) distinct (all_inside links slots before first last after p)

-- a walk goes through the slots that are linked, however many more it may go
walk-linked : (links : List Link) (most : ℕ) (slots : List ℕ) (before first last : ℕ) → Small links → length slots ≤ most → IsLinked links before first last NONE slots → walk links most first ≡ slots
walk-linked links zero [] before first last small fit p = refl
walk-linked links zero (s ∷ slots) before first last small fit p = absurd (omega arith)
walk-linked links (suc most) [] before first last small fit p = ap (λ b. cond b [] (first ∷ walk links most (link links first).next)) (eq-eqb first NONE p.0)
walk-linked links (suc most) (s ∷ slots) before first last small fit p =
    let on = walk-linked links most slots s (link links s).next last small (omega arith) p.3 in
    rw p.0 (ap (λ b. cond b [] (s ∷ walk links most (link links s).next)) (not_none links s small p.1) ∙ ap (λ l. s ∷ l) on)

pub walk-none : (links : List Link) (most : ℕ) → walk links most NONE ≡ []
walk-none links zero = refl
walk-none links (suc most) = refl

-- the links go through these slots, which are distinct
pub record IsOrder (links : List Link) (front back : ℕ) (slots : List ℕ) : Type 0 where
  pub small : Small links
  pub linked : IsLinked links NONE front back NONE slots
  pub distinct : IsDistinct eqb slots
  pub walked : slots_from links front ≡ slots

pub order_is : (links : List Link) (front back : ℕ) → Small links × IsLinked links NONE front back NONE (slots_from links front) × IsDistinct eqb (slots_from links front) → IsOrder links front back (slots_from links front)
order_is links front back p = record { small = p.0; linked = p.1; distinct = p.2; walked = refl }

pub order_from : (links : List Link) (front back : ℕ) (slots : List ℕ) → Small links → IsLinked links NONE front back NONE slots → IsDistinct eqb slots → IsOrder links front back slots
order_from links front back slots small linked distinct =
    record { small = small; linked = linked; distinct = distinct; walked = walk-linked links (length links) slots NONE front back small (slots_fit links slots NONE front back NONE distinct linked) linked }

pub invariant_from : (links : List Link) (front back : ℕ) (slots : List ℕ) → IsOrder links front back slots → Small links × IsLinked links NONE front back NONE (slots_from links front) × IsDistinct eqb (slots_from links front)
invariant_from links front back slots o = (o.small, rw o.walked o.linked, rw o.walked o.distinct)

pub order-joined : (links : List Link) (front back slot : ℕ) (slots : List ℕ) → IsOrder links front back slots → Off slot slots → slot < length links
    → IsOrder (with_next (set links slot record { next = NONE; previous = back }) back slot) (cond (eqb back NONE) slot front) slot (slots ++ slot ∷ [])
order-joined links front back slot slots o off inside =
    let long = length-with_next (set links slot record { next = NONE; previous = back }) back slot in
    let long2 = length-set links slot record { next = NONE; previous = back } in
    let small = o.small in
    order_from _ _ slot (slots ++ slot ∷ []) (omega arith)
    (joined links slots front back slot o.small o.linked o.distinct off inside)
    (distinct-push slots slot o.distinct off)

pub order-left_out : (links : List Link) (front back slot : ℕ) (before behind : List ℕ) → IsOrder links front back (before ++ slot ∷ behind)
    → IsOrder (with_previous (with_next links (link links slot).previous (link links slot).next) (link links slot).next (link links slot).previous)
    (cond (eqb (link links slot).previous NONE) (link links slot).next front) (cond (eqb (link links slot).next NONE) (link links slot).previous back) (before ++ behind)
order-left_out links front back slot before behind o =
    let long = length-with_next links (link links slot).previous (link links slot).next in
    let long2 = length-with_previous (with_next links (link links slot).previous (link links slot).next) (link links slot).next (link links slot).previous in
    let small = o.small in
    order_from _ _ _ (before ++ behind) (omega arith)
    (left_out links before behind front back slot o.small o.linked o.distinct)
    (distinct-cut before behind slot o.distinct).rest

any_default : (links : List Link) (slot : ℕ) (d e : Link) → slot < length links → get_or links slot d ≡ get_or links slot e
any_default [] slot d e inside = absurd (omega arith)
any_default (l ∷ links) zero d e inside = refl
any_default (l ∷ links) (suc slot) d e inside = any_default links slot d e (omega arith)

pub link_read : (links : List Link) (slot : ℕ) (read : Link) → slot < length links → read ≡ get_or links slot read → read ≡ link links slot
link_read links slot read inside is = is ∙ any_default links slot read no_link inside
