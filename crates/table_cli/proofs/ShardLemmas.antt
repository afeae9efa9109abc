-- On shards that are asked in turn, and on rows in their replies.
use Rattle.std.proofs.Common.{◌≡◌, ◌∙◌, ◌<◌, ◌≤◌, ◌+◌, ◌-◌, ℕ, suc, Bool, true, false, unwrap_or, Option, Some, None, Ok, IfSome, List, [], ◌∷◌, ◌++◌, append_assoc, refl, sym, ap, subst, inl, rules, arith}
use Rattle.std.specs.Option.{option_map_or}
use Rattle.std.specs.List.{range_with_len}
use Rattle.stick_model.specs.Step.{Outcome, asks_rows, shows_rows, slot_of}
use Rattle.stick_model.proofs.ReplyLemmas.{rows_told}
use Rattle.std.proofs.lemmas.Bool.{false≢true}
use Rattle.stick_model.specs.declared.events.Event.{Event}
use Rattle.stick_model.specs.declared.replies.Reply.{Reply}
use Rattle.stick_key.specs.declared.kind.KeyType.{KeyType}
use Rattle.table_texts.specs.Form.{Request, Everything, OneKey, Compare, Show, Clear as Clearing, Set}
use Rattle.table_texts.specs.Request.{Asks}
use Rattle.shard_book.specs.Keeping.{IsAnswer}
use Rattle.shard_book.specs.Total.{both, together}
use Rattle.table_cli.specs.Shards.{Answering, AsksInTurn, AsksWhatIsShown, Ends, IsCommand, Refusing, key_shard, shards_of}
use Rattle.table_texts.specs.declared.message.Message.{Message}
use Rattle.table_texts.specs.declared.message.Message.TheVariants.{OutOfMemory}

-- what is asked is an event of a command
pub is_command : (kind : KeyType) (moment : ℕ) (request : Request) (event : Event) → Asks kind moment request (Ok event) → IsCommand event
is_command kind moment (Show choice) event asks = subst IsCommand (sym asks.2) tt
is_command kind moment (Clearing (OneKey text)) event asks = subst IsCommand (sym asks.2) tt
is_command kind moment (Clearing Everything) event asks = subst IsCommand (sym asks.2) tt
is_command kind moment (Clearing (Compare name op value)) event asks = subst IsCommand (sym asks.2) tt
is_command kind moment (Set text pairs) event asks = subst IsCommand (sym asks.4) tt

-- ---- rows

-- a shard that replies rows was asked for some
pub asks_shown : (event : Event) (reply : Reply) → IsAnswer event reply → AsksWhatIsShown event reply
asks_shown event reply answer shows = go (asks_rows event) refl
  where
    go : (asks : Bool) → asks_rows event ≡ asks → asks ≡ true
    go true is = refl
    go false is =
        let none : shows_rows reply ≡ false = sym (ap (λ (o : Outcome). shows_rows o.0) answer.step.gives) ∙ rows_told answer.before event (unwrap_or (slot_of reply) 0) is in
        absurd (false≢true (sym none ∙ shows))

both-shows : (first second : Reply) → shows_rows (both first second) ≡ shows_rows first
both-shows first second = search rules

-- what two shards reply together shows rows where the first does
pub asks_shown-together : (event : Event) (so_far : Option Reply) (reply : Reply) → IfSome so_far (AsksWhatIsShown event) → AsksWhatIsShown event reply → AsksWhatIsShown event (together so_far reply)
asks_shown-together event None reply before here = here
asks_shown-together event (Some first) reply before here = λ shows. before (sym (both-shows first reply) ∙ shows)

-- ---- shards in turn

pub range-more : (i n : ℕ) → i < n → range_with_len i (n - i) ≡ i ∷ range_with_len (i + 1) (n - (i + 1))
range-more i n below = ap (range_with_len i) (steps i n below)
  where
    steps : (i n : ℕ) → i < n → n - i ≡ suc (n - (i + 1))
    steps i n below = omega (arith, below)

pub range-none : (i n : ℕ) → n ≤ i → range_with_len i (n - i) ≡ []
range-none i n le = ap (range_with_len i) (nothing i n le)
  where
    nothing : (i n : ℕ) → n ≤ i → n - i ≡ 0
    nothing i n le = omega (arith, le)

-- an event of a key is asked of one shard
pub one_shard : (shards n i : ℕ) (event : Event) → Some i ≡ key_shard n event → n ≡ shards → shards_of shards event ≡ i ∷ []
one_shard shards n i event is same = ap (λ o. option_map_or (λ i. i ∷ []) o (range_with_len 0 shards)) (sym (is ∙ ap (λ n. key_shard n event) same))

module _ {S : Type 0} (answers : Answering S) (refuses : Refusing S) (event : Event) where
  -- from where the shards so far were asked, what the others answer is what all answer
  abbrev pub GoesOn : List ℕ → S → List ℕ → S → List Reply → Type 0
  GoesOn all old left now replies = (rest : List Reply) (end : Option Message) (new : S) → AsksInTurn answers refuses event left now rest end new → AsksInTurn answers refuses event all old (replies ++ rest) end new

  pub goes_first : (all : List ℕ) (old : S) → GoesOn all old all old []
  goes_first all old rest end new asks = asks

  pub goes_more : (all left left' : List ℕ) (old now mid : S) (i : ℕ) (replies : List Reply) (reply : Reply) → left ≡ i ∷ left' → GoesOn all old left now replies → answers now i event reply mid → GoesOn all old left' mid (replies ++ reply ∷ [])
  goes_more all left left' old now mid i replies reply is goes answered rest end new asks =
      subst (λ all_replies. AsksInTurn answers refuses event all old all_replies end new) (sym (append_assoc replies (reply ∷ []) rest))
      (goes (reply ∷ rest) end new (subst (λ shards. AsksInTurn answers refuses event shards now (reply ∷ rest) end new) (sym is) (mid, answered, asks)))

  -- a growth for rows is refused
  pub ends_in_memory : (left : List ℕ) (now : S) → asks_rows event ≡ true → AsksInTurn answers refuses event left now [] (Some OutOfMemory) now
  ends_in_memory [] now asks = (asks, refl, refl)
  ends_in_memory (i ∷ left) now asks = (inl refl, refl)

  pub ends_all : (left : List ℕ) (now : S) → left ≡ [] → AsksInTurn answers refuses event left now [] None now
  ends_all left now is = subst (λ shards. AsksInTurn answers refuses event shards now [] None now) (sym is) refl

  pub ends_here : (left left' : List ℕ) (now : S) (i : ℕ) (message : Message) → left ≡ i ∷ left' → Ends refuses now i event message → AsksInTurn answers refuses event left now [] (Some message) now
  ends_here left left' now i message is ends = subst (λ shards. AsksInTurn answers refuses event shards now [] (Some message) now) (sym is) (ends, refl)

  -- a growth for rows is refused behind all shards
  pub asks_then_memory : (shards : List ℕ) (old : S) (replies : List Reply) (new : S) → asks_rows event ≡ true → AsksInTurn answers refuses event shards old replies None new
      → AsksInTurn answers refuses event shards old replies (Some OutOfMemory) new
  asks_then_memory [] old [] new asks h = (asks, refl, h)
  asks_then_memory [] old (reply ∷ replies) new asks h = h
  asks_then_memory (i ∷ shards) old [] new asks h = absurd h
  asks_then_memory (i ∷ shards) old (reply ∷ replies) new asks h = (h.0, h.1, asks_then_memory shards h.0 replies new asks h.2)

  pub asks_then_no_memory : (shards : List ℕ) (old : S) (replies : List Reply) (end : Option Message) (new : S) → end ≡ None → asks_rows event ≡ true → AsksInTurn answers refuses event shards old replies end new
      → AsksInTurn answers refuses event shards old replies (Some OutOfMemory) new
  asks_then_no_memory shards old replies end new is asks h = asks_then_memory shards old replies new asks (subst (λ end. AsksInTurn answers refuses event shards old replies end new) is h)
