-- Tokens are dealt from the first one.
use Rattle.std.proofs.Common.{◌≡◌, ◌≢◌, ℕ, zero, suc, ◌+◌, ◌-◌, ◌≤◌, ◌<◌, nat_eq, nat_le, Bool, true, false, cond, not, List, [], ◌∷◌, filter, map, refl, sym, ap, ◌∙◌, subst, arith, true≢false}
use Rattle.std.specs.List.{range_with_len}
use Rattle.std.proofs.lemmas.Bool.Decides.{nat_tests}
use Rattle.shard_record.specs.declared.view.Caller.{Caller}
use Rattle.shard_record.specs.declared.view.Part.{Part}
use Rattle.shard_record.specs.Parts.{caller, caller_number, compared, held_alone, is_caller, joined, keeper, nobody, without_held}
use Rattle.shard_record.specs.Views.{View, at, beginning, calling, keeping, not_calling, not_keeping, only, opening, paired, put, seat_alone, without_keeper, without_seat}
use Rattle.stick_model.specs.declared.events.Event.{Event}
use Rattle.stick_model.specs.declared.replies.Reply.{Reply}
use Rattle.shard_record.specs.Telling.{IsSeer, IsSettled, IsTold, log_of, mine_in, mine_of, number_of, spoken}
use Rattle.shard_record.specs.Dealing.{IsLeft, SeesAll, begun}
use Rattle.shard_record.proofs.TellingLemmas.{told_back}
use Rattle.shard_record.proofs.Views.{at_map, at_put, at_put_else, join_back, settled_put}

abbrev from_to : ℕ → ℕ → List Caller
from_to next count = map (λ number. caller number []) (range_with_len next count)

differ : (a b : ℕ) → a < b → nat_eq a b ≡ false
differ a b below = grind (arith, nat_tests)

itself : (a : ℕ) → nat_eq a a ≡ true
itself a = grind (arith, nat_tests)

-- ---- one seat of those that are left

none_later : (number next count : ℕ) → number < next → filter (is_caller number) (from_to next count) ≡ []
none_later number next zero below = refl
none_later number next (suc count) below =
    ap (λ b. cond b (caller next [] ∷ filter (is_caller number) (from_to (next + 1) count)) (filter (is_caller number) (from_to (next + 1) count))) (differ number next below)
    ∙ none_later number (next + 1) count (omega (arith, below))

all_later : (number next count : ℕ) → number < next → filter (λ c. not (is_caller number c)) (from_to next count) ≡ from_to next count
all_later number next zero below = refl
all_later number next (suc count) below =
    ap (λ b. cond (not b) (caller next [] ∷ filter (λ c. not (is_caller number c)) (from_to (next + 1) count)) (filter (λ c. not (is_caller number c)) (from_to (next + 1) count))) (differ number next below)
    ∙ ap (λ cs. caller next [] ∷ cs) (all_later number (next + 1) count (omega (arith, below)))

first_alone : (next count : ℕ) → filter (is_caller next) (from_to next (suc count)) ≡ caller next [] ∷ []
first_alone next count =
    ap (λ b. cond b (caller next [] ∷ filter (is_caller next) (from_to (next + 1) count)) (filter (is_caller next) (from_to (next + 1) count))) (itself next)
    ∙ ap (λ cs. caller next [] ∷ cs) (none_later next (next + 1) count (omega arith))

first_gone : (next count : ℕ) → filter (λ c. not (is_caller next c)) (from_to next (suc count)) ≡ from_to (next + 1) count
first_gone next count =
    ap (λ b. cond (not b) (caller next [] ∷ filter (λ c. not (is_caller next c)) (from_to (next + 1) count)) (filter (λ c. not (is_caller next c)) (from_to (next + 1) count))) (itself next)
    ∙ all_later next (next + 1) count (omega arith)

left_of : (number seats : ℕ) → number < seats → seats - number ≡ suc (seats - (number + 1))
left_of number seats below = omega (arith, below)

seat_of : (keeps : Bool) (number seats : ℕ) → number < seats → calling number (begun keeps number seats) ≡ spoken number [] []
seat_of keeps number seats below =
    let alone : filter (is_caller number) (from_to number (seats - number)) ≡ caller number [] ∷ [] = ap (λ n. filter (is_caller number) (from_to number n)) (left_of number seats below) ∙ first_alone number (seats - (number + 1)) in
    λ i. record { keeps = false; log = []; told = []; held = []; callers = alone i }

rest_of : (keeps : Bool) (number seats : ℕ) → number < seats → not_calling number (begun keeps number seats) ≡ begun keeps (number + 1) seats
rest_of keeps number seats below =
    let gone : filter (λ c. not (is_caller number c)) (from_to number (seats - number)) ≡ from_to (number + 1) (seats - (number + 1)) =
    ap (λ n. filter (λ c. not (is_caller number c)) (from_to number n)) (left_of number seats below) ∙ first_gone number (seats - (number + 1)) in
    λ i. record { keeps = keeps; log = []; told = []; held = []; callers = gone i }

-- ---- book by book

-- what is left of the first token, and what the seat's has, once the books below `upto` were gone through
abbrev pub FirstAt : ℕ → ℕ → ℕ → ℕ → ℕ → ℕ → Part → Type 0
FirstAt kept number seats books upto book part = (book < upto → part ≡ begun (nat_le kept book) (number + 1) seats) × (upto ≤ book → book < books → part ≡ begun (nat_le kept book) number seats)

abbrev pub SeatAt : ℕ → ℕ → ℕ → ℕ → Part → Type 0
SeatAt number books upto book part = (book < upto → part ≡ spoken number [] []) × (upto ≤ book → book < books → part ≡ nobody)

put_cases : (Q : ℕ → Part → Type 0) (of : ℕ) (part : Part) (view : View) → Q of part → ((book : ℕ) → book ≢ of → Q book (at book view)) → (book : ℕ) → (b : Bool) → nat_eq book of ≡ b → Q book (at book (put of part view))
put_cases Q of part view here others book true is =
    let same : of ≡ book = grind (arith, nat_tests) in
    subst (λ k. Q k (at k (put of part view))) same (subst (Q of) (sym (at_put of part view)) here)
put_cases Q of part view here others book false is =
    let apart : book ≢ of = λ e. true≢false (sym (equal book of e) ∙ is) in
    subst (Q book) (sym (at_put_else of book part view apart)) (others book apart)
  where
    equal : (a b : ℕ) → a ≡ b → nat_eq a b ≡ true
    equal a b e = grind (arith, nat_tests)

pub first_more : (kept number seats books upto : ℕ) (first new : View) → number < seats → upto < books → ((book : ℕ) → FirstAt kept number seats books upto book (at book first)) → new ≡ without_seat upto number first
    → (book : ℕ) → FirstAt kept number seats books (upto + 1) book (at book new)
first_more kept number seats books upto first new below inside was is book =
    subst (λ v. FirstAt kept number seats books (upto + 1) book (at book v)) (sym is)
    (put_cases (λ k p. FirstAt kept number seats books (upto + 1) k p) upto (not_calling number (at upto first)) first
    ((λ _. ap (not_calling number) ((was upto).1 (omega arith) inside) ∙ rest_of (nat_le kept upto) number seats below), (λ le. absurd (omega (arith, le))))
    (λ k apart. ((λ lt. (was k).0 (omega (arith, lt, apart))), (λ le. (was k).1 (omega (arith, le))))) book (nat_eq book upto) refl)

pub seat_more : (kept number seats books upto : ℕ) (first one seat new : View) → number < seats → upto < books → ((book : ℕ) → FirstAt kept number seats books upto book (at book first)) → ((book : ℕ) → SeatAt number books upto book (at book seat)) → IsSettled seat
    → one ≡ seat_alone upto number first → new ≡ map compared (paired joined seat one) → ((book : ℕ) → SeatAt number books (upto + 1) book (at book new)) × IsSettled new
seat_more kept number seats books upto first one seat new below inside first_is was settled given both =
    let alone : one ≡ only upto (spoken number [] []) = given ∙ ap (only upto) (ap (calling number) ((first_is upto).1 (omega arith) inside) ∙ seat_of (nat_le kept upto) number seats below) in
    let now : new ≡ put upto (spoken number [] []) seat =
    both ∙ (ap (λ o. map compared (paired joined seat o)) alone ∙ (join_back upto seat (spoken number [] []) ((was upto).1 (omega arith) inside) settled ∙ ap (λ p. put upto p seat) (told_back number [] []))) in (
      (λ book. subst (λ v. SeatAt number books (upto + 1) book (at book v)) (sym now)
          (put_cases (λ k p. SeatAt number books (upto + 1) k p) upto (spoken number [] []) seat ((λ _. refl), (λ le. absurd (omega (arith, le))))
          (λ k apart. ((λ lt. (was k).0 (omega (arith, lt, apart))), (λ le. (was k).1 (omega (arith, le))))) book (nat_eq book upto) refl)),
      subst IsSettled (sym now) (settled_put upto (spoken number [] []) seat refl settled),
    )

-- ---- the beginning

settled_alone : (view : View) → IsSettled (map held_alone view)
settled_alone [] = tt
settled_alone (part ∷ view) = (refl, settled_alone view)

pub first_start : (kept number seats books : ℕ) (first new : View) → IsLeft kept books number seats first → new ≡ map without_held first → (book : ℕ) → FirstAt kept number seats books 0 book (at book new)
first_start kept number seats books first new begun_is is book =
    ((λ lt. absurd (omega (arith, lt))), (λ _ below. ap (at book) is ∙ (at_map without_held refl book first ∙ ap without_held (begun_is book below))))

pub seat_start : (kept number seats books : ℕ) (first seat : View) → IsLeft kept books number seats first → seat ≡ map held_alone first → ((book : ℕ) → SeatAt number books 0 book (at book seat)) × IsSettled seat
seat_start kept number seats books first seat begun_is is = (
  (λ book. ((λ lt. absurd (omega (arith, lt))), (λ _ below. ap (at book) is ∙ (at_map held_alone refl book first ∙ ap held_alone (begun_is book below))))),
  subst IsSettled (sym is) (settled_alone first),
)

opening_at : (seats book count : ℕ) (from : ℕ) → book < count → at book (map (λ (n : ℕ). beginning seats) (range_with_len from count)) ≡ beginning seats
opening_at seats book zero from below = absurd (omega (arith, below))
opening_at seats zero (suc count) from below = refl
opening_at seats (suc book) (suc count) from below = opening_at seats book count (from + 1) (omega (arith, below))

all_kept : (a : ℕ) → nat_le 0 a ≡ true
all_kept a = grind (arith, nat_tests)

pub opening_left : (books seats : ℕ) → IsLeft 0 books 0 seats (opening books seats)
opening_left books seats book below =
    let all : seats ≡ seats - 0 = omega arith in
    opening_at seats book books 0 below ∙ ((λ i. record { keeps = true; log = []; told = []; held = []; callers = from_to 0 (all i) }) ∙ ap (λ (b : Bool). begun b 0 seats) (sym (all_kept book)))

-- ---- a keeper

least : (a : ℕ) → nat_le a a ≡ true
least a = grind (arith, nat_tests)

less : (a : ℕ) → false ≡ nat_le (a + 1) a
less a = grind (arith, nat_tests)

other_kept : (a b : ℕ) → b ≢ a → nat_le a b ≡ nat_le (a + 1) b
other_kept a b apart = cases (nat_le a b) (nat_le (a + 1) b) refl refl
  where
    cases : (one more : Bool) → nat_le a b ≡ one → nat_le (a + 1) b ≡ more → one ≡ more
    cases true true is was = refl
    cases false false is was = refl
    cases true false is was = absurd (grind (arith, nat_tests, apart, is, was))
    cases false true is was = absurd (grind (arith, nat_tests, apart, is, was))

pub keeps_next : (book books number seats : ℕ) (first : View) → IsLeft book books number seats first → book < books → keeping (at book first) ≡ keeper []
keeps_next book books number seats first left below = ap keeping (left book below) ∙ ap (λ (b : Bool). keeping (begun b number seats)) (least book)

pub keeps_less : (book books number seats : ℕ) (first new : View) → IsLeft book books number seats first → book < books → new ≡ without_keeper book first → IsLeft (book + 1) books number seats new
keeps_less book books number seats first new left below is other inside =
    subst (λ v. at other v ≡ begun (nat_le (book + 1) other) number seats) (sym is)
    (put_cases (λ k p. k < books → p ≡ begun (nat_le (book + 1) k) number seats) book (not_keeping (at book first)) first
    (λ _. ap not_keeping (left book below) ∙ ap (λ (b : Bool). begun b number seats) (less book))
    (λ k apart there. left k there ∙ ap (λ (b : Bool). begun b number seats) (other_kept book k apart)) other (nat_eq other book) refl inside)

-- ---- a seat that called one book may call the others as before

pub sees_more : (books of : ℕ) (event : Event) (reply : Reply) (old new : View) → SeesAll books old → IsTold of event reply old new → SeesAll books new
sees_more books of event reply old new sees told book inside =
    subst (IsSeer book) (sym told.others)
    (put_cases (λ k p. k < books → p ≡ spoken (caller_number p.callers) p.log (mine_in p.callers)) of (spoken (number_of of old) (log_of of new) (mine_of of new)) old
    (λ _. refl) (λ k apart. sees k) book (nat_eq book of) refl inside)
