-- On what a seat is told by shards in turn.
use Rattle.std.proofs.Common.{◌≡◌, ◌∙◌, ℕ, zero, suc, ◌+◌, ◌≤◌, ◌^◌, Option, Some, None, List, [], ◌∷◌, ◌++◌, All, length, fold, refl, sym, ap, subst, rules, arith}
use Rattle.std.specs.List.{range_with_len}
use Rattle.std.proofs.lemmas.List.Elements.{All-cons}
use Rattle.std.specs.Option.{option_map_or}
use Rattle.stored_data.specs.declared.field.Field.{Field}
use Rattle.stick_model.specs.Step.{Outcome, begun, listed}
use Rattle.stick_model.specs.Filters.{not_stored}
use Rattle.stick_model.specs.declared.filters.Filter.{Filter}
use Rattle.stick_model.specs.declared.events.Event.{Event}
use Rattle.stick_model.specs.declared.events.Event.TheVariants.{List as ListRows}
use Rattle.stick_model.specs.declared.replies.Reply.{Reply}
use Rattle.stick_model.specs.declared.replies.Reply.TheVariants.{NotStored}
use Rattle.shard_book.specs.Total.{IsCounted, IsShown, both, total}
use Rattle.shard_book.proofs.TotalLemmas.{counted}
use Rattle.shard_book.specs.SeatState.{SeatState}
use Rattle.shard_book.specs.Told.{Told}
use Rattle.shard_locks.specs.Listing.{IsListing, ToldByFirst, ToldInTurn}

told_more : (shards : List ℕ) (old mid new : SeatState) (event : Event) (replies : List Reply) (i : ℕ) (reply : Reply)
    → ToldInTurn shards old event replies mid → Told mid i event reply new → ToldInTurn (shards ++ i ∷ []) old event (replies ++ reply ∷ []) new
told_more [] old mid new event [] i reply told here = (new, subst (λ (s : SeatState). Told s i event reply new) told here, refl)
told_more [] old mid new event (first ∷ replies) i reply told here = absurd told
told_more (shard ∷ shards) old mid new event [] i reply told here = absurd told
told_more (shard ∷ shards) old mid new event (first ∷ replies) i reply told here = (told.0, told.1, told_more shards told.0 mid new event replies i reply told.2 here)

range-last : (n a : ℕ) → range_with_len a (suc n) ≡ range_with_len a n ++ (a + n) ∷ []
range-last zero a = ap (λ i. i ∷ []) (last a)
  where
    last : (a : ℕ) → a ≡ a + 0
    last a = omega arith
range-last (suc n) a = ap (λ is. a ∷ is) (range-last n (a + 1) ∙ ap (λ i. range_with_len (a + 1) n ++ i ∷ []) (later n a))
  where
    later : (n a : ℕ) → a + 1 + n ≡ a + suc n
    later n a = omega arith

-- the next shard told its reply too
pub told_by_more : (n : ℕ) (old mid new : SeatState) (event : Event) (replies all : List Reply) (reply : Reply)
    → ToldByFirst n old event replies mid → Told mid n event reply new → all ≡ replies ++ reply ∷ [] → ToldByFirst (n + 1) old event all new
told_by_more n old mid new event replies all reply told here more =
    let after : n + 1 ≡ suc n = omega arith in
    let last : 0 + n ≡ n = omega arith in
    let one : range_with_len 0 (n + 1) ≡ range_with_len 0 n ++ n ∷ [] = ap (range_with_len 0) after ∙ range-last n 0 ∙ ap (λ i. range_with_len 0 n ++ i ∷ []) last in
    subst (λ rs. ToldByFirst (n + 1) old event rs new) (sym more)
    (subst (λ shards. ToldInTurn shards old event (replies ++ reply ∷ []) new) (sym one) (told_more (range_with_len 0 n) old mid new event replies n reply told here))

-- there is a reply of each shard
told_length : (shards : List ℕ) (old new : SeatState) (event : Event) (replies : List Reply) → ToldInTurn shards old event replies new → length replies ≡ length shards
told_length [] old new event [] told = refl
told_length [] old new event (first ∷ replies) told = absurd told
told_length (shard ∷ shards) old new event [] told = absurd told
told_length (shard ∷ shards) old new event (first ∷ replies) told = ap suc (told_length shards told.0 new event replies told.2)

pub told_as_many : (n : ℕ) (old new : SeatState) (event : Event) (replies : List Reply) → ToldByFirst n old event replies new → length replies ≡ n
told_as_many n old new event replies told = told_length (range_with_len 0 n) old new event replies told ∙ length-range n 0
  where
    length-range : (n a : ℕ) → length (range_with_len a n) ≡ n
    length-range zero a = refl
    length-range (suc n) a = ap suc (length-range n (a + 1))

-- ---- their replies

-- a shard lists rows, or tells that the field isn't stored
told_listing : (old new : SeatState) (shard now : ℕ) (choice : Filter) (reply : Reply) → Told old shard (ListRows now choice) reply new → IsListing reply
told_listing old new shard now choice reply told =
    subst IsListing (ap (λ (o : Outcome). o.0) told.step.gives) (either (not_stored told.before.spec.columns choice))
  where
    either : (missing : Option Field) → IsListing (option_map_or NotStored missing (listed (begun told.before now) choice))
    either None = tt
    either (Some field) = tt

told_counted : (shards : List ℕ) (old new : SeatState) (now : ℕ) (choice : Filter) (replies : List Reply) → ToldInTurn shards old (ListRows now choice) replies new → All (IsCounted (2 ^ 30)) replies
told_counted shards old new now choice [] told = search rules
told_counted [] old new now choice (first ∷ replies) told = absurd told
told_counted (shard ∷ shards) old new now choice (first ∷ replies) told =
    All-cons (IsCounted (2 ^ 30)) first replies (counted (ListRows now choice) told.1.before told.1.after first tt told.1.limits told.1.legal told.1.step) (told_counted shards told.0 new now choice replies told.2)

pub told_by_counted : (n : ℕ) (old new : SeatState) (now : ℕ) (choice : Filter) (replies : List Reply) → ToldByFirst n old (ListRows now choice) replies new → All (IsCounted (2 ^ 30)) replies
told_by_counted n old new now choice replies told = told_counted (range_with_len 0 n) old new now choice replies told

both_listing : (first second : Reply) → IsListing first → IsListing (both first second)
both_listing first second listing = search rules

fold_listing : (first : Reply) (replies : List Reply) → IsListing first → IsListing (fold both first replies)
fold_listing first [] listing = listing
fold_listing first (reply ∷ replies) listing = fold_listing (both first reply) replies (both_listing first reply listing)

-- all together they are a listing
total_listing : (shards : List ℕ) (old new : SeatState) (now : ℕ) (choice : Filter) (replies : List Reply) → 1 ≤ length replies → ToldInTurn shards old (ListRows now choice) replies new → IsListing (total replies)
total_listing shards old new now choice [] some told = omega (arith, some)
total_listing [] old new now choice (first ∷ replies) some told = absurd told
total_listing (shard ∷ shards) old new now choice (first ∷ replies) some told = fold_listing first replies (told_listing old told.0 shard now choice first told.1)

shown_listing : (reply shown : Reply) → IsShown reply shown → IsListing reply → IsListing shown
shown_listing reply shown is listing = search rules

pub joined_listing : (n : ℕ) (old new : SeatState) (now : ℕ) (choice : Filter) (replies : List Reply) (shown : Reply)
    → 1 ≤ n → ToldByFirst n old (ListRows now choice) replies new → IsShown (total replies) shown → IsListing shown
joined_listing n old new now choice replies shown some told is =
    shown_listing (total replies) shown is (total_listing (range_with_len 0 n) old new now choice replies (omega (arith, some, told_as_many n old new (ListRows now choice) replies told)) told)
