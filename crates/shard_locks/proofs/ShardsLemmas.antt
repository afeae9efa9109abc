-- What a table in shards begins with.
use Rattle.std.proofs.Common.{◌≡◌, ℕ, ◌+◌, ◌<◌, Bool, List, [], ◌∷◌, length, map, get_or, sym, ap, ◌∙◌, subst, arith}
use Rattle.std.specs.Prelude.{◌++◌}
use Rattle.std.specs.List.{range_with_len}
use Rattle.std.proofs.lemmas.List.FromFn.{get_or-map-range_with_len, length-map-range_with_len, map-range_with_len_more}
use Rattle.stick_model.specs.Limits.{IsTableSpec}
use Rattle.stick_model.specs.declared.specification.Spec.{Spec}
use Rattle.shard_book.specs.Keeping.{part_of}
use Rattle.shard_book.proofs.BookLemmas.{one_behind}
use Rattle.shard_book.proofs.BooksLemmas.{part_limits}
use Rattle.shard_book.specs.SeatState.{fresh}
use Rattle.shard_locks.specs.Shared.{AreParts}
use Rattle.shard_locks.specs.ShardsState.{ShardsState, UnlockedState, AreShards, fresh_seats}

-- one seat more
pub fresh_seats_more : (n : ℕ) (keeps : Bool) → fresh_seats (n + 1) keeps ≡ fresh_seats n keeps ++ fresh n keeps ∷ []
fresh_seats_more n keeps = map-range_with_len_more (λ number. fresh number keeps) 0 n n (omega arith)

-- what one shard more was made with
pub parts_more : (spec part : Spec) (shards n : ℕ) (old new : List Spec)
    → old ≡ map (part_of spec shards) (range_with_len 0 n) → part ≡ part_of spec shards n → new ≡ old ++ part ∷ [] → new ≡ map (part_of spec shards) (range_with_len 0 (n + 1))
parts_more spec part shards n old new were is more =
    one_behind (map (part_of spec shards) (range_with_len 0 n)) old new part (part_of spec shards n) more were is ∙ sym (map-range_with_len_more (part_of spec shards) 0 n n (omega arith))

-- what a shard was made with is found at its place
pub part_place : (inside now : ShardsState) (specs : List Spec) (i : ℕ) → inside ≡ now → AreShards inside.spec inside.shards specs → i < now.shards → i < length specs
part_place inside now specs i same are below =
    let count : length specs ≡ inside.shards = ap length are.parts ∙ length-map-range_with_len (part_of inside.spec inside.shards) 0 inside.shards in
    let shards : inside.shards ≡ now.shards = ap (λ (table : ShardsState). table.shards) same in
    omega (arith, count, shards, below)

pub part_found : (inside now : ShardsState) (specs : List Spec) (i : ℕ) (found : Spec)
    → inside ≡ now → AreShards inside.spec inside.shards specs → i < now.shards → found ≡ get_or specs i found → found ≡ part_of now.spec now.shards i
part_found inside now specs i found same are below is =
    let shards : inside.shards ≡ now.shards = ap (λ (table : ShardsState). table.shards) same in
    let there : get_or (map (part_of inside.spec inside.shards) (range_with_len 0 inside.shards)) i found ≡ part_of inside.spec inside.shards i =
    get_or-map-range_with_len (part_of inside.spec inside.shards) 0 inside.shards i i found (omega (arith, shards, below)) (omega arith) in
    is ∙ ap (λ xs. get_or xs i found) are.parts ∙ there ∙ ap (λ (table : ShardsState). part_of table.spec table.shards i) same

pub part_within : (inside now : ShardsState) (specs : List Spec) (i : ℕ) (found : Spec)
    → inside ≡ now → AreShards inside.spec inside.shards specs → i < now.shards → found ≡ get_or specs i found → IsTableSpec found
part_within inside now specs i found same are below is =
    let whole : found ≡ part_of inside.spec inside.shards i = part_found inside now specs i found same are below is ∙ sym (ap (λ (table : ShardsState). part_of table.spec table.shards i) same) in
    subst IsTableSpec (sym whole) (part_limits inside.spec inside.shards i are.limits are.some are.places)

-- the record says of its book that it was made so
pub part_made : (specs : ℕ → Spec) (inside now : ShardsState) (i : ℕ) → inside ≡ now → AreParts specs inside.first inside.spec inside.shards → i < now.shards → specs (inside.first + i) ≡ part_of now.spec now.shards i
part_made specs inside now i same are below =
    are.each i (subst (λ (table : ShardsState). i < table.shards) (sym same) below) ∙ ap (λ (table : ShardsState). part_of table.spec table.shards i) same

-- out of their locks, there are as many books as shards were made
pub parts_count : (inside now : UnlockedState) → inside ≡ now → AreShards inside.spec (length inside.books) inside.specs → length now.books ≡ length inside.specs
parts_count inside now same are =
    let count : length inside.specs ≡ length inside.books = ap length are.parts ∙ length-map-range_with_len (part_of inside.spec (length inside.books)) 0 (length inside.books) in
    ap (λ (table : UnlockedState). length table.books) (sym same) ∙ sym count
