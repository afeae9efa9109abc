-- What connections in places have passed, as one is put in a place, and as seats are told of more.
use Rattle.std.proofs.Common.{map, ◌≡◌, ◌≢◌, ◌≤◌, ◌<◌, ◌+◌, ℕ, zero, suc, nat_eq, nat_lt, Bool, true, false, refl, sym, ap, ◌∙◌, subst, List, [], ◌∷◌, length, Option, Some, None, slice_get, slice_index_or, slice_set, arith}
use Rattle.std.proofs.lemmas.Bool.{false≢true}
use Rattle.std.proofs.lemmas.Bool.Decides.{nat_tests}
use Rattle.shard_book.specs.SeatState.{RefState}
use Rattle.shard_locks.specs.ShardsState.{SeatedState}
use Rattle.rule_model.specs.declared.sections.Setup.{Setup}
use Rattle.admit_core.specs.declared.conn.Conn.{Conn}
use Rattle.tcp_relay.specs.Releasing.{OthersStay, is_open_there}
use Rattle.tcp_relay.proofs.PassedTold.{get_set_other, get_set_same}
use Rattle.stick_model.proofs.TestLemmas.{eq-from}
use Rattle.tcp_relay.specs.Passed.{HasPassedIn, HaveAllPassed, HavePassedStill, NoneCame, Passes, StaysThere}

none_some : {X : Type 0} (x : X) → None ≡ Some x → ⊥
none_some x e = cc

in_some : {X : Type 0} (x y : X) → Some x ≡ Some y → x ≡ y
in_some x y e = cc

module _ {X : Type 0} (is_open : X → Bool) (conn_of : X → Conn RefState) (setup : Setup) (seats : List SeatedState) where
  -- one is put in a place, or taken from there
  pub set_passed : (places : List (Option X)) (place : ℕ) (new : Option X) → Passes is_open conn_of setup seats new → HaveAllPassed is_open conn_of setup seats places → HaveAllPassed is_open conn_of setup seats (slice_set places place new)
  set_passed [] zero new it all at one there opened = absurd (none_some (Some one) there)
  set_passed [] (suc place) new it all at one there opened = absurd (none_some (Some one) there)
  set_passed (first ∷ places) zero new it all zero one there opened = it one (in_some new (Some one) there) opened
  set_passed (first ∷ places) zero new it all (suc at) one there opened = all (suc at) one there opened
  set_passed (first ∷ places) (suc place) new it all zero one there opened = all zero one there opened
  set_passed (first ∷ places) (suc place) new it all (suc at) one there opened = set_passed places place new it (λ i. all (suc i)) at one there opened

  -- no connection
  pub passes_none : Passes is_open conn_of setup seats None
  passes_none one is opened = absurd (none_some one is)

  -- one that is open nowhere
  pub passes_closed : (kept : X) → is_open kept ≡ false → Passes is_open conn_of setup seats (Some kept)
  passes_closed kept closed one is opened = absurd (false≢true (sym closed ∙ subst (λ x. is_open x ≡ true) (sym (in_some kept one is)) opened))

  -- one of this connection
  pub passes_one : (kept : X) (conn : Conn RefState) → conn_of kept ≡ conn → HasPassedIn setup seats conn → Passes is_open conn_of setup seats (Some kept)
  passes_one kept conn same has one is opened = subst (λ x. HasPassedIn setup seats (conn_of x)) (in_some kept one is) (subst (HasPassedIn setup seats) (sym same) has)

  -- no place
  pub none_passed : (places : List (Option X)) → length places ≡ 0 → HaveAllPassed is_open conn_of setup seats places
  none_passed [] none at one there opened = absurd (none_some (Some one) there)
  none_passed (first ∷ places) none at one there opened = absurd (omega (arith, none))

-- by what the seats know then
pub all_still : {X : Type 0} (is_open : X → Bool) (conn_of : X → Conn RefState) (setup : Setup) (old new : List SeatedState) (places : List (Option X)) → HavePassedStill old new → HaveAllPassed is_open conn_of setup old places → HaveAllPassed is_open conn_of setup new places
all_still is_open conn_of setup old new places still all at one there opened = still setup (conn_of one) (all at one there opened)

module _ {X : Type 0} (is_open : X → Bool) (conn_of : X → Conn RefState) where
  -- the one of a place goes on
  pub goes_on_there : (place : Option X) (was new : X) → place ≡ Some was → conn_of new ≡ conn_of was → is_open new ≡ is_open was → StaysThere is_open conn_of place (Some new)
  goes_on_there place was new there same as_open setup seats had one is opened =
      let its : is_open new ≡ true = subst (λ x. is_open x ≡ true) (sym (in_some new one is)) opened in
      passes_one is_open conn_of setup seats new (conn_of was) same (had was there (sym as_open ∙ its)) one is opened

  -- so do those of all places
  pub set_stays : (old : List (Option X)) (place : ℕ) (was now : Option X) → slice_get old place ≡ Some was → StaysThere is_open conn_of was now → NoneCame is_open conn_of old (slice_set old place now)
  set_stays old place was now there stays setup seats all = set_passed is_open conn_of setup seats old place now (stays setup seats (λ one is opened. all place one (there ∙ ap Some is) opened)) all

  -- one that isn't open is put in a place
  pub put_closed : (old new : List (Option X)) (place : ℕ) (kept : X) → new ≡ slice_set old place (Some kept) → is_open kept ≡ false → NoneCame is_open conn_of old new
  put_closed old new place kept put closed setup seats all = subst (HaveAllPassed is_open conn_of setup seats) (sym put) (set_passed is_open conn_of setup seats old place (Some kept) (passes_closed is_open conn_of setup seats kept closed) all)

  -- one is taken
  pub take_none : (old : List (Option X)) (place : ℕ) (left : Option X) → left ≡ None → NoneCame is_open conn_of old (slice_set old place left)
  take_none old place left none setup seats all = set_passed is_open conn_of setup seats old place left (subst (Passes is_open conn_of setup seats) (sym none) (passes_none is_open conn_of setup seats)) all

  -- one that has passed is put in a place
  pub put_passed : (old new : List (Option X)) (place : ℕ) (one : X) (conn : Conn RefState) → new ≡ slice_set old place (Some one) → conn_of one ≡ conn → (setup : Setup) (seats : List SeatedState) → HasPassedIn setup seats conn → HaveAllPassed is_open conn_of setup seats old → HaveAllPassed is_open conn_of setup seats new
  put_passed old new place one conn put same setup seats has all =
      subst (HaveAllPassed is_open conn_of setup seats) (sym put) (set_passed is_open conn_of setup seats old place (Some one) (passes_one is_open conn_of setup seats one conn same has) all)

-- ---- in a place, and in all others

self_same : (a : ℕ) → nat_eq a a ≡ true
self_same a = grind (arith, nat_tests)

differ : (a b : ℕ) → a ≢ b → nat_eq a b ≡ false
differ a b apart = by (nat_eq a b) refl
  where
    by : (same : Bool) → nat_eq a b ≡ same → nat_eq a b ≡ false
    by true is = absurd (apart (eq-from a b is))
    by false is = is

-- what is lent of a list is there
pub get_there : {X : Type 0} (xs : List X) (i : ℕ) (x : X) → i < length xs → x ≡ slice_index_or xs i x → slice_get xs i ≡ Some x
get_there [] i x within is = absurd (omega (arith, within))
get_there (y ∷ ys) zero x within is = ap Some (sym is)
get_there (y ∷ ys) (suc i) x within is = get_there ys i x (omega (arith, within)) is

-- one is put in a place that is free
pub there_put : {X : Type 0} (old new : List (Option X)) (place : ℕ) (one : X) → slice_get old place ≡ Some None → new ≡ slice_set old place (Some one) → slice_get new place ≡ Some (Some one)
there_put old new place one free put = ap (λ places. slice_get places place) put ∙ get_set_same old place (Some one) None free

-- a place is set
pub others_set : {X : Type 0} (old new : List (Option X)) (place : ℕ) (now : Option X) → new ≡ slice_set old place now → OthersStay place old new
others_set old new place now put other apart = ap (λ places. slice_get places other) put ∙ get_set_other old place other now (differ other place apart)

pub set_count : {X : Type 0} (old : List X) (place : ℕ) (now : X) → length (slice_set old place now) ≡ length old
set_count [] place now = refl
set_count (one ∷ more) zero now = refl
set_count (one ∷ more) (suc place) now = ap suc (set_count more place now)

-- ---- whether one is open in some place

beyond : {X : Type 0} (places : List (Option X)) (at : ℕ) → length places ≤ at → slice_get places at ≡ None
beyond [] zero less = refl
beyond [] (suc at) less = refl
beyond (one ∷ more) zero less = absurd (omega (arith, less))
beyond (one ∷ more) (suc at) less = beyond more at (omega (arith, less))

-- none in the first places, and none in the next
pub closed_more : {X : Type 0} (is_open : X → Bool) (old new : List (Option X)) (place : ℕ) → is_open_there is_open (slice_get new place) ≡ false → OthersStay place old new → ((at : ℕ) → at < place → is_open_there is_open (slice_get old at) ≡ false)
    → (at : ℕ) → at < place + 1 → is_open_there is_open (slice_get new at) ≡ false
closed_more is_open old new place closed others all at less = by (nat_eq at place) refl
  where
    by : (same : Bool) → nat_eq at place ≡ same → is_open_there is_open (slice_get new at) ≡ false
    by true is = ap (λ i. is_open_there is_open (slice_get new i)) (eq-from at place is) ∙ closed
    by false is =
        let apart : at ≢ place = λ same. false≢true (sym is ∙ ap (λ i. nat_eq i place) same ∙ self_same place) in
        ap (is_open_there is_open) (others at apart) ∙ all at (omega (arith, less, apart))

-- none in any place
pub all_closed : {X : Type 0} (is_open : X → Bool) (places : List (Option X)) (count : ℕ) → length places ≤ count → ((at : ℕ) → at < count → is_open_there is_open (slice_get places at) ≡ false) → (at : ℕ) → is_open_there is_open (slice_get places at) ≡ false
all_closed is_open places count few all at = by (nat_lt at count) refl
  where
    by : (within : Bool) → nat_lt at count ≡ within → is_open_there is_open (slice_get places at) ≡ false
    by true is = all at (grind (arith, nat_tests, is))
    by false is =
        let out : count ≤ at = grind (arith, nat_tests, is) in
        ap (is_open_there is_open) (beyond places at (omega (arith, few, out)))
