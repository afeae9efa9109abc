-- Lists with room to spare, and rows of tables with their seats.
use Rattle.std.proofs.Common.{◌≡◌, ◌≤◌, ◌<◌, ◌+◌, ◌++◌, ◌∷◌, [], ◌∙◌, ℕ, zero, suc, refl, sym, ap, subst, arith, List, Bool, Option, Some, Vec, get_or, get_or-set_other, get_or-set_same, inl, inr, length, map, nat_lt, slice_get, slice_index_or, slice_set, take, vec_capacity, vec_len}
use Rattle.std.specs.List.{AllWithin}
use Rattle.std.specs.Prelude.{option_map}
use Rattle.std.proofs.lemmas.Bool.{cases_Bool, ltb-true}
use Rattle.std.proofs.lemmas.List.{map_push, take_more}
use Rattle.std.proofs.lemmas.List.Elements.{AllWithin-more_set}
use Rattle.std.proofs.lemmas.Option.{slice_get-map}
use Rattle.shard_locks.specs.Shared.{SharedSeatState}
use Rattle.shard_locks.specs.ShardsState.{SeatedState, ShardsState}
use Rattle.tcp_relay.specs.Seating.{AreIn, Has, HaveFew, HaveRoom, StoreAs, held_in, put_in}

-- what has at most so many has at most more
pub few_more : {X Z : Type 0} (most more places : ℕ) (lists : List (Vec X Z)) → most ≤ more → HaveFew most places lists → HaveFew more places lists
few_more most more places lists within few = λ k d at. let is = few k d at in (omega (arith, within, is.0), is.1)

-- what has room for so many has room for fewer
pub room_less : {X Z : Type 0} (less room : ℕ) (lists : List (Vec X Z)) → less ≤ room → HaveRoom room lists → HaveRoom less lists
room_less less room lists within has = λ k d at. omega (arith, within, has k d at)

-- where the list of a table is replaced by one that has one more at its end, that is put in
pub put_in_set : {X Z : Type 0} (table : ℕ) (more : X) (lists : List (Vec X Z)) (list new : Vec X Z) → list ≡ slice_index_or lists table list → new.items ≡ list.items ++ more ∷ [] → held_in (slice_set lists table new) ≡ put_in table more (held_in lists)
unfolding put_in
put_in_set zero more [] list new at grown = refl
put_in_set (suc table) more [] list new at grown = refl
put_in_set zero more (first ∷ lists) list new at grown = ap (λ items. items ∷ held_in lists) (grown ∙ ap (λ it. it.items ++ more ∷ []) at)
put_in_set (suc table) more (first ∷ lists) list new at grown = ap (λ rest. first.items ∷ rest) (put_in_set table more lists list new at grown)

-- ---- rows

-- where the next list has one fewer, the first lists have
pub fewer_more : {X Z : Type 0} (lists : List (Vec X Z)) (place all : ℕ) (list popped : Vec X Z) → place < length lists → place < all → list ≡ slice_index_or lists place list → vec_len popped + 1 ≡ vec_len list → vec_capacity popped ≡ vec_capacity list → (count places : ℕ)
    → AllWithin (Has count places) lists 0 place × AllWithin (Has (count + 1) places) lists place all → AllWithin (Has count places) (slice_set lists place popped) 0 (place + 1) × AllWithin (Has (count + 1) places) (slice_set lists place popped) (place + 1) all
fewer_more lists place all list popped within below at len cap count places so_far =
    let before : Has (count + 1) places list = subst (Has (count + 1) places) (sym at) (so_far.1 place list (omega arith) below) in (
      AllWithin-more_set lists place popped within (Has count places) so_far.0 (omega (arith, len, before.0), omega (arith, cap, before.1)),
      λ k d low high. subst (Has (count + 1) places) (sym (get_or-set_other lists place k popped d (omega (arith, low)))) (so_far.1 k d (omega (arith, low)) high),
    )

abbrev table_in : SeatedState → ShardsState
table_in one = one.table

-- what holds of the first holds of fewer, where one behind them is set
pub within_less : {X : Type 0} (P : X → Type 0) (xs : List X) (place less before : ℕ) (x : X) → place ≡ less → less + 1 ≡ before → AllWithin P xs 0 before → AllWithin P (slice_set xs place x) 0 less
within_less P xs place less before x same one_less is = λ k d low high. subst P (sym (get_or-set_other xs place k x d (omega (arith, same, high)))) (is k d low (omega (arith, one_less, high)))

-- where the list before the last has one more, one more of the last lists have
pub more_back : {X Z : Type 0} (lists : List (Vec X Z)) (place less before all : ℕ) (list grown : Vec X Z) → place < length lists → place ≡ less → less + 1 ≡ before → list ≡ slice_index_or lists place list → vec_len grown ≡ vec_len list + 1
    → vec_capacity grown ≡ vec_capacity list → (count places : ℕ) → AllWithin (Has count places) lists 0 before × AllWithin (Has (count + 1) places) lists before all
    → AllWithin (Has count places) (slice_set lists place grown) 0 less × AllWithin (Has (count + 1) places) (slice_set lists place grown) less all
more_back {X = X} {Z = Z} lists place less before all list grown within same one_less at len cap count places so_far =
    let was : Has count places list = subst (Has count places) (sym at) (so_far.0 place list (omega arith) (omega (arith, same, one_less))) in
    let has : Has (count + 1) places grown = (omega (arith, len, was.0), omega (arith, cap, was.1)) in
    let here : (d : Vec X Z) → Has (count + 1) places (get_or (slice_set lists place grown) place d) = λ d. subst (Has (count + 1) places) (sym (get_or-set_same lists place grown d within)) has in (
      within_less (Has count places) lists place less before grown same one_less so_far.0,
      λ k d low high. elim (cases_Bool (nat_lt place k)) [
        | inl is_so ↦
            let past : place < k = ltb-true place k is_so in
            subst (Has (count + 1) places) (sym (get_or-set_other lists place k grown d (omega (arith, past)))) (so_far.1 k d (omega (arith, past, same, one_less)) high)
        | inr not_so ↦
            let same_place : place ≡ k = grind (arith, not_so, low, same) in
            subst (λ j. Has (count + 1) places (get_or (slice_set lists place grown) j d)) same_place (here d)
      ],
    )

-- none stand for none
pub none_in : {X Y : Type 0} (xs : List X) (part : X → Y) → length xs ≡ 0 → map part xs ≡ []
none_in [] part none = refl
none_in (x ∷ xs) part none = absurd (omega (arith, none))

-- the row has one table more
pub row_more : (tables : List ShardsState) (place : ℕ) (row new : List SeatedState) (one : SeatedState) (table : ShardsState) (seat : SharedSeatState) → place < length tables → map table_in row ≡ take place tables → new ≡ row ++ one ∷ []
    → one ≡ record { table = table; seat = seat.seat; known = seat.known } → table ≡ get_or tables place table → map table_in new ≡ take (place + 1) tables
row_more tables place row new one table seat within so_far grown is at =
    ap (map table_in) grown ∙ map_push table_in row one ∙ ap (λ those. those ++ one.table ∷ []) so_far ∙ ap (λ (t : ShardsState). take place tables ++ t ∷ []) (ap table_in is ∙ at) ∙ sym (take_more tables place table within)

-- where each table is in so many shards, so is each of the row
pub row_in : (shards : ℕ) (tables : List ShardsState) (row : List SeatedState) → map table_in row ≡ tables → AreIn (λ (table : ShardsState). table.shards) shards tables → AreIn (λ (one : SeatedState). one.table.shards) shards row
row_in shards tables row same each i one at = each i one.table (ap (λ those. slice_get those i) (sym same) ∙ slice_get-map table_in row i ∙ ap (option_map table_in) at)

-- and where each stores what it should, so does each of the row
pub row_stores : (current : ℕ → Bool) (tables : List ShardsState) (row : List SeatedState) → map table_in row ≡ tables → StoreAs (λ (table : ShardsState). table.spec) current tables → StoreAs (λ (one : SeatedState). one.table.spec) current row
row_stores current tables row same each i one at = each i one.table (ap (λ those. slice_get those i) (sym same) ∙ slice_get-map table_in row i ∙ ap (option_map table_in) at)
