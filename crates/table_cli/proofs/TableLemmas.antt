-- On named tables in a list.
use Rattle.std.proofs.Common.{◌≡◌, ℕ, zero, suc, ◌+◌, ◌-◌, ◌<◌, ◌≤◌, ◌==◌, Bool, true, false, cond, filter, Option, Some, None, Result, Ok, Err, List, [], ◌∷◌, ◌++◌, map, take, length, slice_index, get_or, set, position, nat_lt, not, refl, sym, ap, ◌∙◌, subst, arith}
use Rattle.std.specs.List.{position_or_len, range_with_len}
use Rattle.std.specs.Str.{bytes_eq}
use Rattle.std.proofs.lemmas.List.{get_or-map, length-map, length-take-le, map-set}
use Rattle.base_lines.specs.Line.{without_cr}
use Rattle.stick_model.specs.declared.specification.Spec.{Spec}
use Rattle.base_lines.specs.Chain.{Chain}
use Rattle.table_texts.specs.Text.{header_text}
use Rattle.base_lines.proofs.ChainLemmas.{Chain-more}
use Rattle.table_cli.specs.Answers.{AsksOf, Does, HeadAt, HeadsOf, IsHead, place_of, used_of}
use Rattle.table_cli.specs.Room.{LooksAt, LooksWhere, key_asked}
use Rattle.table_cli.specs.declared.room.Room.{Room}
use Rattle.table_cli.specs.declared.room.Room.TheVariants.{Free}
use Rattle.table_texts.specs.Form.{Request}
use Rattle.table_texts.specs.Request.{Asks}
use Rattle.shard_book.specs.NamedTables.{NamedState, state_of, states_of}
use Rattle.shard_book.specs.Total.{total}
use Rattle.table_cli.specs.Shards.{Answering, AsksInTurn, Refusing}
use Rattle.table_texts.specs.Texts.{message_text}
use Rattle.table_texts.specs.declared.message.Message.{Message}
use Rattle.table_texts.specs.declared.message.Message.TheVariants.{NoSuchTable}
use Rattle.shard_book.specs.declared.named.Named.{Named}
use Rattle.stick_model.specs.declared.events.Event.{Event}
use Rattle.stick_model.specs.declared.events.Event.TheVariants.{List as ListRows}
use Rattle.stick_model.specs.declared.filters.Filter.TheVariants as filters
use Rattle.stick_model.specs.declared.replies.Reply.{Reply}

position_or_len-map : {X Y : Type 0} (p : Y → Bool) (f : X → Y) (xs : List X) → position_or_len p (map f xs) ≡ position_or_len (λ x. p (f x)) xs
position_or_len-map p f [] = refl
position_or_len-map p f (x ∷ xs) = ap (λ n. cond (not (p (f x))) (1 + n) 0) (position_or_len-map p f xs)

-- the first that passes a test
pub filter_first : {X : Type 0} (p : X → Bool) (xs rest : List X) (x : X) → xs ≡ x ∷ rest → p x ≡ true → filter p xs ≡ x ∷ filter p rest
filter_first p xs rest x is passes = ap (filter p) is ∙ ap (λ b. cond b (x ∷ filter p rest) (filter p rest)) passes

pub length-without_cr : (line : List ℕ) → length (without_cr line) ≤ length line
length-without_cr line =
    elim (slice_index line (length line - 1) == 13) as (λ b. length (cond b (take (length line - 1) line) line) ≤ length line) [
      | true ↦ omega (arith, length-take-le (length line - 1) line (omega arith))
      | false ↦ omega arith
    ]

-- a place in a list that is mapped
pub position-map : {X Y : Type 0} (p : Y → Bool) (f : X → Y) (xs : List X) → position p (map f xs) ≡ position (λ x. p (f x)) xs
position-map p f xs =
    ap (λ n. cond (nat_lt (position_or_len p (map f xs)) n) (Some (position_or_len p (map f xs))) None) (length-map xs f)
    ∙ ap (λ n. cond (nat_lt n (length xs)) (Some n) None) (position_or_len-map p f xs)

module _ {K S : Type 0} (spec : K → Spec) (parts : K → ℕ) (state : K → S) where
  -- the table at a place, as it is seen
  pub seen_at : (tables : List (Named K)) (place : ℕ) (was : Named K) → place < length tables → was ≡ get_or tables place was
      → state_of spec parts state was ≡ get_or (states_of spec parts state tables) place (state_of spec parts state was)
  seen_at tables place was within is =
      let f : Named K → NamedState S = state_of spec parts state in
      ap f is ∙ sym (get_or-map f tables place was (f was) within)

module _ {K S : Type 0} (answers : Answering S) (refuses : Refusing S) (spec : K → Spec) (parts : K → ℕ) (state : K → S) where
  -- that table alone has another state
  pub seen_after : (tables : List (Named K)) (place : ℕ) (was now : Named K) → now.name ≡ was.name → spec now.keeper ≡ spec was.keeper → parts now.keeper ≡ parts was.keeper
      → states_of spec parts state (set tables place now) ≡ set (states_of spec parts state tables) place (record (state_of spec parts state was) { state = state now.keeper })
  seen_after tables place was now same kept divided =
      let f : Named K → NamedState S = state_of spec parts state in
      let with_state : List ℕ → Spec → ℕ → NamedState S = λ n s p. record { name = n; spec = s; shards = p; state = state now.keeper } in
      let here : f now ≡ with_state was.name (spec was.keeper) (parts was.keeper) =
      ap (λ n. with_state n (spec now.keeper) (parts now.keeper)) same ∙ ap (λ s. with_state was.name s (parts now.keeper)) kept ∙ ap (λ p. with_state was.name (spec was.keeper) p) divided in
      map-set f tables place now ∙ ap (λ table. set (map f tables) place table) here

  -- the table at the place of a name did what is asked
  pub asked_at : (moment : ℕ) (request : Request) (name : List ℕ) (tables : List (Named K)) (place : ℕ) (was now : Named K) (text : List ℕ) (asked : Result Event Message)
      → place < length tables → was ≡ get_or tables place was → Some place ≡ position (λ table. bytes_eq table.name name) tables
      → now.name ≡ was.name → spec now.keeper ≡ spec was.keeper → parts now.keeper ≡ parts was.keeper
      → Asks (spec was.keeper).kind moment request asked → Does answers refuses (state_of spec parts state was) asked text (state now.keeper)
      → AsksOf answers refuses moment request (place_of name (states_of spec parts state tables)) (states_of spec parts state tables) text (states_of spec parts state (set tables place now))
  asked_at moment request name tables place was now text asked within is found same kept divided asks does =
      let f : Named K → NamedState S = state_of spec parts state in
      let placed : place_of name (map f tables) ≡ Some place = position-map (λ (table : NamedState S). bytes_eq table.name name) f tables ∙ sym found in
      subst (λ o. AsksOf answers refuses moment request o (map f tables) text (map f (set tables place now))) (sym placed)
      (f was, state now.keeper, asked, seen_at spec parts state tables place was within is, asks, does, seen_after tables place was now same kept divided)

  -- the table at the place of a name was asked what it has for an entry
  pub looked_at : (moment : ℕ) (request : Request) (name : List ℕ) (tables : List (Named K)) (place : ℕ) (was now : Named K) (room : Room) (asked : Result Event Message)
      → place < length tables → was ≡ get_or tables place was → Some place ≡ position (λ table. bytes_eq table.name name) tables
      → now.name ≡ was.name → spec now.keeper ≡ spec was.keeper → parts now.keeper ≡ parts was.keeper
      → Asks (spec was.keeper).kind moment request asked → LooksWhere answers refuses moment (spec was.keeper) (parts was.keeper) (state was.keeper) (key_asked asked) room (state now.keeper)
      → LooksAt answers refuses moment request (place_of name (states_of spec parts state tables)) (states_of spec parts state tables) room (states_of spec parts state (set tables place now))
  looked_at moment request name tables place was now room asked within is found same kept divided asks looks =
      let f : Named K → NamedState S = state_of spec parts state in
      let placed : place_of name (map f tables) ≡ Some place = position-map (λ (table : NamedState S). bytes_eq table.name name) f tables ∙ sym found in
      subst (λ o. LooksAt answers refuses moment request o (map f tables) room (map f (set tables place now))) (sym placed)
      (f was, state now.keeper, asked, seen_at spec parts state tables place was within is, asks, looks, seen_after tables place was now same kept divided)

  pub not_looked_at : (moment : ℕ) (request : Request) (name : List ℕ) (tables : List (Named K)) → None ≡ position (λ table. bytes_eq table.name name) tables
      → LooksAt answers refuses moment request (place_of name (states_of spec parts state tables)) (states_of spec parts state tables) Free (states_of spec parts state tables)
  not_looked_at moment request name tables none =
      let f : Named K → NamedState S = state_of spec parts state in
      let placed : place_of name (map f tables) ≡ None = position-map (λ (table : NamedState S). bytes_eq table.name name) f tables ∙ sym none in
      subst (λ o. LooksAt answers refuses moment request o (map f tables) Free (map f tables)) (sym placed) (refl, refl)

  -- there is no table of the name
  pub no_table : (moment : ℕ) (request : Request) (name : List ℕ) (tables : List (Named K)) → None ≡ position (λ table. bytes_eq table.name name) tables
      → AsksOf answers refuses moment request (place_of name (states_of spec parts state tables)) (states_of spec parts state tables) (message_text NoSuchTable) (states_of spec parts state tables)
  no_table moment request name tables none =
      let f : Named K → NamedState S = state_of spec parts state in
      let placed : place_of name (map f tables) ≡ None = position-map (λ (table : NamedState S). bytes_eq table.name name) f tables ∙ sym none in
      subst (λ o. AsksOf answers refuses moment request o (map f tables) (message_text NoSuchTable) (map f tables)) (sym placed) (refl, refl)

  -- ---- the headers of all tables

  -- the table at a place said its header, or why its shards' turn ended
  pub head_at : (moment : ℕ) (tables : List (Named K)) (place : ℕ) (was now : Named K) (replies : List Reply) (end : Option Message) (head : Result (List ℕ) Message)
      → place < length tables → was ≡ get_or tables place was → now.name ≡ was.name → spec now.keeper ≡ spec was.keeper → parts now.keeper ≡ parts was.keeper
      → AsksInTurn answers refuses (ListRows moment filters.Nothing) (range_with_len 0 (parts was.keeper)) (state was.keeper) replies end (state now.keeper)
      → IsHead (state_of spec parts state was) replies end head
      → HeadAt answers refuses moment (states_of spec parts state tables) place head (states_of spec parts state (set tables place now))
  head_at moment tables place was now replies end head within is same kept divided asks heads =
      (state_of spec parts state was, state now.keeper, replies, end, seen_at spec parts state tables place was within is, asks, heads, seen_after tables place was now same kept divided)

pub says_head : {S : Type 0} (table : NamedState S) (replies : List Reply) (end : Option Message) → end ≡ None
    → IsHead table replies end (Ok (header_text table.name table.spec.kind table.spec.size (used_of (total replies))))
says_head table replies end is = subst (λ end. IsHead table replies end (Ok (header_text table.name table.spec.kind table.spec.size (used_of (total replies))))) (sym is) refl

pub ends_head : {S : Type 0} (table : NamedState S) (replies : List Reply) (end : Option Message) (message : Message) → end ≡ Some message → IsHead table replies end (Err message)
ends_head table replies end message is = subst (λ end. IsHead table replies end (Err message)) (sym is) refl

module _ {S : Type 0} (answers : Answering S) (refuses : Refusing S) where
  range_more : (n a : ℕ) → range_with_len a (suc n) ≡ range_with_len a n ++ (a + n) ∷ []
  range_more zero a = ap (λ i. i ∷ []) (last a)
    where
      last : (a : ℕ) → a ≡ a + 0
      last a = omega arith
  range_more (suc n) a = ap (λ is. a ∷ is) (range_more n (a + 1) ∙ ap (λ i. range_with_len (a + 1) n ++ i ∷ []) (later n a))
    where
      later : (n a : ℕ) → a + 1 + n ≡ a + suc n
      later n a = omega arith

  -- the next table said its header too
  pub heads_more : (moment place : ℕ) (old mid new : List (NamedState S)) (text head : List ℕ) → HeadsOf answers refuses moment place old text mid → HeadAt answers refuses moment mid place (Ok head) new
      → HeadsOf answers refuses moment (place + 1) old (text ++ head) new
  heads_more moment place old mid new text head heads here =
      let At : List (NamedState S) → ℕ → List ℕ → List (NamedState S) → Type 0 = λ state place text next. HeadAt answers refuses moment state place (Ok text) next in
      let after : place + 1 ≡ suc place = omega arith in
      let last : 0 + place ≡ place = omega arith in
      let one : range_with_len 0 (place + 1) ≡ range_with_len 0 place ++ place ∷ [] = ap (range_with_len 0) after ∙ range_more place 0 ∙ ap (λ i. range_with_len 0 place ++ i ∷ []) last in
      subst (λ places. Chain At old places (text ++ head) new) (sym one) (Chain-more At old mid new (range_with_len 0 place) place text head heads here)
