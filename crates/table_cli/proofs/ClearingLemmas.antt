-- On entries that are cleared one after another.
use Rattle.std.proofs.Common.{◌≡◌, ℕ, Bool, true, false, ◌||◌, Option, Some, None, Result, Ok, Err, List, [], ◌∷◌, refl, sym, subst}
use Rattle.std.specs.List.{range_with_len}
use Rattle.stick_key.specs.Shard.{shard}
use Rattle.stick_model.specs.declared.events.Event.TheVariants.{Clear, List as ListRows}
use Rattle.stick_model.specs.declared.filters.Filter.{Filter}
use Rattle.stick_model.specs.declared.rows.Row.{Row}
use Rattle.stick_model.specs.declared.replies.Reply.{Reply}
use Rattle.shard_book.specs.Total.{IsShown, total}
use Rattle.table_texts.specs.declared.comparisons.Comparison.{Comparison}
use Rattle.table_texts.specs.declared.message.Message.{Message}
use Rattle.table_cli.specs.Matching.{ClearsBy, ClearsEach, first_filter, is_kept, narrowed, other_filters, rows_listed, with_kept}
use Rattle.table_cli.specs.Shards.{Answering, AsksInTurn, Refusing}

kept-none : (rest : Result Bool Message) → with_kept false rest ≡ rest
kept-none (Ok later) = refl
kept-none (Err message) = refl

kept-more : (before here : Bool) (rest : Result Bool Message) → with_kept before (with_kept here rest) ≡ with_kept (before || here) rest
kept-more true here (Ok later) = refl
kept-more false here (Ok later) = refl
kept-more before here (Err message) = refl

kept-last : (before : Bool) → with_kept before (Ok false) ≡ Ok before
kept-last true = refl
kept-last false = refl

module _ {S : Type 0} (answers : Answering S) (refuses : Refusing S) (moment shards : ℕ) where
  -- what clearing the entries that are left comes to, with those so far, is what clearing all does
  abbrev pub GoesOn : List Row → S → List Row → S → Bool → Type 0
  GoesOn all old left now stays = (rest : Result Bool Message) (new : S) → ClearsEach answers refuses moment shards left now rest new → ClearsEach answers refuses moment shards all old (with_kept stays rest) new

  pub goes_first : (all : List Row) (old : S) → GoesOn all old all old false
  goes_first all old rest new clears = subst (λ result. ClearsEach answers refuses moment shards all old result new) (sym (kept-none rest)) clears

  -- an entry more was asked to go
  pub goes_more : (all left later : List Row) (row : Row) (old now mid : S) (stays : Bool) (replies : List Reply) (end : Option Message) (shown : Reply)
      → left ≡ row ∷ later → GoesOn all old left now stays
      → AsksInTurn answers refuses (Clear moment row.key) (shard row.key shards ∷ []) now replies end mid → end ≡ None → IsShown (total replies) shown
      → GoesOn all old later mid (stays || is_kept shown)
  goes_more all left later row old now mid stays replies end shown is goes asks none shows rest new clears =
      subst (λ result. ClearsEach answers refuses moment shards all old result new) (kept-more stays (is_kept shown) rest)
      (goes (with_kept (is_kept shown) rest) new
      (subst (λ rows. ClearsEach answers refuses moment shards rows now (with_kept (is_kept shown) rest) new) (sym is)
      (replies, None, mid, subst (λ e. AsksInTurn answers refuses (Clear moment row.key) (shard row.key shards ∷ []) now replies e mid) none asks, (shown, rest, shows, clears, refl))))

  -- its shard refused
  pub goes_wrong : (all left later : List Row) (row : Row) (old now mid : S) (stays : Bool) (replies : List Reply) (end : Option Message) (message : Message)
      → left ≡ row ∷ later → GoesOn all old left now stays
      → AsksInTurn answers refuses (Clear moment row.key) (shard row.key shards ∷ []) now replies end mid → end ≡ Some message
      → ClearsEach answers refuses moment shards all old (Err message) mid
  goes_wrong all left later row old now mid stays replies end message is goes asks some =
      goes (Err message) mid
      (subst (λ rows. ClearsEach answers refuses moment shards rows now (Err message) mid) (sym is)
      (replies, Some message, mid, subst (λ e. AsksInTurn answers refuses (Clear moment row.key) (shard row.key shards ∷ []) now replies e mid) some asks, (refl, refl)))

  -- none is left
  pub goes_last : (all left : List Row) (old now : S) (stays : Bool) → left ≡ [] → GoesOn all old left now stays → ClearsEach answers refuses moment shards all old (Ok stays) now
  goes_last all left old now stays is goes =
      subst (λ result. ClearsEach answers refuses moment shards all old result now) (kept-last stays)
      (goes (Ok false) now (subst (λ rows. ClearsEach answers refuses moment shards rows now (Ok false) now) (sym is) (refl, refl)))

  -- what is listed is cleared
  pub clears_listed : (first : Filter) (others : List Comparison) (old mid new : S) (replies : List Reply) (end : Option Message) (shown : Reply) (rows : List Row) (parts : ℕ) (result : Result Bool Message)
      → AsksInTurn answers refuses (ListRows moment first) (range_with_len 0 shards) old replies end mid → end ≡ None → IsShown (total replies) shown
      → rows ≡ rows_listed (narrowed others shown) → parts ≡ shards → ClearsEach answers refuses moment parts rows mid result new
      → ClearsBy answers refuses moment first others shards old result new
  clears_listed first others old mid new replies end shown rows parts result asks none shows is same clears = (
    replies,
    None,
    mid,
    subst (λ e. AsksInTurn answers refuses (ListRows moment first) (range_with_len 0 shards) old replies e mid) none asks,
    (shown, shows, subst (λ rs. ClearsEach answers refuses moment shards rs mid result new) is (subst (λ n. ClearsEach answers refuses moment n rows mid result new) same clears)),
  )

  -- listing ended with a message
  pub clears_nothing : (first : Filter) (others : List Comparison) (old mid : S) (replies : List Reply) (end : Option Message) (message : Message)
      → AsksInTurn answers refuses (ListRows moment first) (range_with_len 0 shards) old replies end mid → end ≡ Some message
      → ClearsBy answers refuses moment first others shards old (Err message) mid
  clears_nothing first others old mid replies end message asks some =
      (replies, Some message, mid, subst (λ e. AsksInTurn answers refuses (ListRows moment first) (range_with_len 0 shards) old replies e mid) some asks, (refl, refl))

-- the filters of a list, taken apart
pub by_all : (P : Filter → List Comparison → Type 0) (all : List Comparison) (first : Filter) (others : List Comparison)
    → first ≡ first_filter all → others ≡ other_filters all → P first others → P (first_filter all) (other_filters all)
by_all P all first others one rest holds =
    subst (λ f. P f (other_filters all)) one (subst (λ cs. P first cs) rest holds)
