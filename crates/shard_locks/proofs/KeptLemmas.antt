-- Books beside what keeps their records, in lists.
use Rattle.std.proofs.Common.{◌≡◌, ℕ, suc, List, [], ◌∷◌, ◌++◌, length, reverse, sym, ap, subst, refl}
use Rattle.std.proofs.lemmas.List.{reverse-append}
use Rattle.stick_model.specs.declared.specification.Spec.{Spec}
use Rattle.shard_record.specs.Telling.{KeeperState}
use Rattle.shard_book.specs.BookState.{BookState}
use Rattle.shard_book.specs.Kept.{IsKept}
use Rattle.shard_locks.specs.Shared.{AreKept}

pub kept_more : (specs : ℕ → Spec) (books : List BookState) (keepers : List KeeperState) (book : BookState) (keeper : KeeperState) → AreKept specs books keepers → IsKept (specs keeper.book) book keeper.log → AreKept specs (books ++ book ∷ []) (keepers ++ keeper ∷ [])
kept_more specs [] [] book keeper are is = (is, tt)
kept_more specs [] (k ∷ keepers) book keeper are is = absurd are
kept_more specs (b ∷ books) [] book keeper are is = absurd are
kept_more specs (b ∷ books) (k ∷ keepers) book keeper are is = (are.0, kept_more specs books keepers book keeper are.1 is)

pub kept_length : (specs : ℕ → Spec) (books : List BookState) (keepers : List KeeperState) → AreKept specs books keepers → length keepers ≡ length books
kept_length specs [] [] are = refl
kept_length specs [] (k ∷ keepers) are = absurd are
kept_length specs (b ∷ books) [] are = absurd are
kept_length specs (b ∷ books) (k ∷ keepers) are = ap suc (kept_length specs books keepers are.1)

-- the last of them is such a pair, and so are those before
pub kept_last : (specs : ℕ → Spec) (books : List BookState) (keepers : List KeeperState) (book : BookState) (keeper : KeeperState) → AreKept specs (books ++ book ∷ []) (keepers ++ keeper ∷ []) → AreKept specs books keepers × IsKept (specs keeper.book) book keeper.log
kept_last specs [] [] book keeper are = (tt, are.0)
kept_last specs [] (k ∷ []) book keeper are = absurd are.1
kept_last specs [] (k ∷ other ∷ keepers) book keeper are = absurd are.1
kept_last specs (b ∷ []) [] book keeper are = absurd are.1
kept_last specs (b ∷ other ∷ books) [] book keeper are = absurd are.1
kept_last specs (b ∷ books) (k ∷ keepers) book keeper are = let rest = kept_last specs books keepers book keeper are.1 in ((are.0, rest.0), rest.1)

pub kept_reverse : (specs : ℕ → Spec) (books : List BookState) (keepers : List KeeperState) → AreKept specs books keepers → AreKept specs (reverse books) (reverse keepers)
kept_reverse specs [] [] are = tt
kept_reverse specs [] (k ∷ keepers) are = absurd are
kept_reverse specs (b ∷ books) [] are = absurd are
kept_reverse specs (b ∷ books) (k ∷ keepers) are =
    subst (λ bs. AreKept specs bs (reverse (k ∷ keepers))) (sym (reverse-append (b ∷ []) books))
    (subst (AreKept specs (reverse books ++ b ∷ [])) (sym (reverse-append (k ∷ []) keepers)) (kept_more specs (reverse books) (reverse keepers) b k (kept_reverse specs books keepers are.1) are.0))

-- one more is put behind them
pub kept_next : (specs : ℕ → Spec) (books more : List BookState) (keepers others : List KeeperState) (book : BookState) (keeper : KeeperState) → AreKept specs books keepers → IsKept (specs keeper.book) book keeper.log → more ≡ books ++ book ∷ [] → others ≡ keepers ++ keeper ∷ [] → AreKept specs more others
kept_next specs books more keepers others book keeper are is grown longer =
    subst (λ bs. AreKept specs bs others) (sym grown) (subst (AreKept specs (books ++ book ∷ [])) (sym longer) (kept_more specs books keepers book keeper are is))

-- they are turned
pub kept_turned : (specs : ℕ → Spec) (books turned : List BookState) (keepers others : List KeeperState) → AreKept specs books keepers → turned ≡ reverse books → others ≡ reverse keepers → AreKept specs turned others
kept_turned specs books turned keepers others are back too =
    subst (λ bs. AreKept specs bs others) (sym back) (subst (AreKept specs (reverse books)) (sym too) (kept_reverse specs books keepers are))

-- the last of each is taken
pub kept_pair : (specs : ℕ → Spec) (books fewer : List BookState) (keepers less : List KeeperState) (book : BookState) (keeper : KeeperState) → AreKept specs books keepers → books ≡ fewer ++ book ∷ [] → keepers ≡ less ++ keeper ∷ [] → AreKept specs fewer less × IsKept (specs keeper.book) book keeper.log
kept_pair specs books fewer keepers less book keeper are is too =
    kept_last specs fewer less book keeper (subst (λ bs. AreKept specs bs (less ++ keeper ∷ [])) is (subst (AreKept specs books) too are))
