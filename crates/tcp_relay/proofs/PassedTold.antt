-- What a seat knows of books' records grows as it is told of calls.
use Rattle.std.proofs.Common.{◌≡◌, ◌≢◌, ℕ, zero, suc, refl, sym, ap, subst, ◌∙◌, arith, true, false, nat_eq, Bool, List, [], ◌∷◌, ◌++◌, append_assoc, slice_get, slice_set, Some}
use Rattle.std.proofs.lemmas.Bool.{false≢true}
use Rattle.std.proofs.lemmas.Bool.Decides.{nat_tests}
use mathlib.Core.List.{IsPrefix}
use Rattle.stick_model.specs.declared.events.Event.{Event}
use Rattle.stick_model.specs.declared.replies.Reply.{Reply}
use Rattle.stick_model.proofs.TestLemmas.{eq-from}
use Rattle.shard_record.specs.declared.view.Part.{Part}
use Rattle.shard_record.specs.Calls.{IsHistory, call}
use Rattle.shard_record.specs.Telling.{IsTold, log_of, mine_in, mine_of, number_of, spoken}
use Rattle.shard_record.specs.Parts.{caller_number}
use Rattle.shard_record.specs.Views.{View, at}
use Rattle.shard_record.proofs.Beginnings.{begins_itself}
use Rattle.shard_record.proofs.Views.{at_put, at_put_else}

same : (a : ℕ) → nat_eq a a ≡ true
same a = grind (arith, nat_tests)

differs : (a b : ℕ) → nat_eq a b ≡ false → a ≢ b
differs a b is e = false≢true (sym is ∙ ap (nat_eq a) (sym e) ∙ same a)

-- of this book a call more, and of any other as much
module _ (of : ℕ) (event : Event) (reply : Reply) (old new : View) (told : IsTold of event reply old new) where
  pub other_same : (book : ℕ) → nat_eq book of ≡ false → log_of book new ≡ log_of book old
  other_same book apart = ap (λ (p : Part). p.log) (ap (at book) told.others ∙ at_put_else of book (spoken (number_of of old) (log_of of new) (mine_of of new)) old (differs book of apart))

  pub told_grows : (book : ℕ) → IsPrefix (log_of book old) (log_of book new)
  told_grows book = by (nat_eq book of) refl
    where
      own : IsPrefix (log_of of old) (log_of of new)
      own = (told.between ++ call (number_of of old) event reply ∷ [], sym (append_assoc (log_of of old) told.between (call (number_of of old) event reply ∷ [])) ∙ sym told.log)

      by : (b : Bool) → nat_eq book of ≡ b → IsPrefix (log_of book old) (log_of book new)
      by true is = subst (λ n. IsPrefix (log_of n old) (log_of n new)) (sym (eq-from book of is)) own
      by false is = subst (IsPrefix (log_of book old)) (sym (other_same book is)) (begins_itself (log_of book old))

  -- of any other book a seat has made no call more
  pub mine_other : (book : ℕ) → nat_eq book of ≡ false → mine_of book new ≡ mine_of book old
  mine_other book apart = ap (λ (p : Part). mine_in p.callers) (ap (at book) told.others ∙ at_put_else of book (spoken (number_of of old) (log_of of new) (mine_of of new)) old (differs book of apart))

  -- a seat calls under the same number
  pub number_same : (book : ℕ) → number_of book new ≡ number_of book old
  number_same book = by (nat_eq book of) refl
    where
      own : number_of of new ≡ number_of of old
      own = ap (λ (p : Part). caller_number p.callers) (ap (at of) told.others ∙ at_put of (spoken (number_of of old) (log_of of new) (mine_of of new)) old)

      by : (b : Bool) → nat_eq book of ≡ b → number_of book new ≡ number_of book old
      by true is = subst (λ n. number_of n new ≡ number_of n old) (sym (eq-from book of is)) own
      by false is = ap (λ (p : Part). caller_number p.callers) (ap (at book) told.others ∙ at_put_else of book (spoken (number_of of old) (log_of of new) (mine_of of new)) old (differs book of is))

  pub told_history : (book : ℕ) → IsHistory (log_of book old) → IsHistory (log_of book new)
  told_history book was = by (nat_eq book of) refl
    where
      by : (b : Bool) → nat_eq book of ≡ b → IsHistory (log_of book new)
      by true is = subst (λ n. IsHistory (log_of n new)) (sym (eq-from book of is)) told.history
      by false is = subst IsHistory (sym (other_same book is)) was

-- ---- an element of a list is set

pub get_set_same : {X : Type 0} (xs : List X) (i : ℕ) (y x : X) → slice_get xs i ≡ Some x → slice_get (slice_set xs i y) i ≡ Some y
get_set_same [] zero y x at = cc
get_set_same [] (suc i) y x at = cc
get_set_same (z ∷ xs) zero y x at = refl
get_set_same (z ∷ xs) (suc i) y x at = get_set_same xs i y x at

pred_differ : (i j : ℕ) → nat_eq (suc j) (suc i) ≡ false → nat_eq j i ≡ false
pred_differ i j differ = grind (arith, nat_tests)

pub get_set_other : {X : Type 0} (xs : List X) (i j : ℕ) (y : X) → nat_eq j i ≡ false → slice_get (slice_set xs i y) j ≡ slice_get xs j
get_set_other [] i j y differ = refl
get_set_other (z ∷ xs) zero zero y differ = absurd (false≢true (sym differ))
get_set_other (z ∷ xs) zero (suc j) y differ = refl
get_set_other (z ∷ xs) (suc i) zero y differ = refl
get_set_other (z ∷ xs) (suc i) (suc j) y differ = get_set_other xs i j y (pred_differ i j differ)
