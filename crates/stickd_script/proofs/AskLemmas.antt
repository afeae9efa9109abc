-- What a request asks of a table, where memory is ample: one event, or one message.
use Rattle.std.proofs.Common.{◌≡◌, inl, inr, refl, sym, ap, subst, ◌∙◌, arith, ℕ, true, Result, Ok, Err, List}
use Rattle.stick_key.specs.KeyText.{IsMalformed, IsOutOfRange, Reads, ReadsOneKey}
use Rattle.stick_key.specs.declared.kind.KeyType.{KeyType}
use Rattle.stick_key.specs.declared.kind.KeyType.TheVariants.{Ip, Ipv6, Integer, Text, Binary}
use Rattle.stick_key.specs.Dotted.{AreBytes}
use Rattle.stick_model.specs.Key.{Key}
use Rattle.stick_model.specs.declared.events.Event.{Event}
use Rattle.stick_model.specs.declared.events.Event.TheVariants.{Put, ClearWhere, List as ListRows}
use Rattle.stick_model.specs.declared.events.Event.TheVariants as events
use Rattle.stick_model.specs.declared.filters.Filter.{Filter}
use Rattle.stick_model.specs.declared.filters.Filter.TheVariants as filters
use Rattle.stick_model.specs.declared.rows.Cell.{Cell}
use Rattle.table_texts.specs.Form.{Choice, Everything, OneKey, Compare, Request, Show, Clear, Set}
use Rattle.table_texts.specs.Request.{Asks, ReadsFilter, ReadsKey, ReadsPut, cells_of}
use Rattle.table_texts.specs.declared.message.Message.{Message}
use Rattle.table_texts.specs.declared.message.Message.TheVariants.{InvalidKey, OutOfMemory}
use Rattle.stickd_script.specs.Unrefused.{IsAmple}
use Rattle.stickd_script.proofs.PlainCommandLemmas.{is_commanded}

-- a text that is read isn't wrong
not_malformed : (kind : KeyType) (text : List ℕ) (key : Key) → Reads kind text key → IsMalformed kind text → ⊥
not_malformed Ip text key reads wrong = wrong reads.0
not_malformed Ipv6 text key reads wrong = wrong key reads
not_malformed Integer text key reads wrong = wrong reads.0
not_malformed (Text n) text key reads wrong = reads.0 wrong
not_malformed (Binary n) text key reads wrong = wrong reads.0

in_range : (kind : KeyType) (text : List ℕ) (key : Key) → Reads kind text key → IsOutOfRange kind text → ⊥
in_range Ip text key reads wrong = wrong.1 (subst AreBytes reads.2 reads.1)
in_range Ipv6 text key reads wrong = wrong
in_range Integer text key reads wrong = absurd (omega (arith, reads.1, wrong.1))
in_range (Text n) text key reads wrong = wrong
in_range (Binary n) text key reads wrong = wrong

not_wrong : (kind : KeyType) (text : List ℕ) (key : Key) (message : Message) → Reads kind text key → ReadsKey kind text (Err message) → IsAmple {X = Key} (Err message) → ⊥
not_wrong kind text key InvalidKey reads (inl wrong) ample = not_malformed kind text key reads wrong
not_wrong kind text key InvalidKey reads (inr wrong) ample = in_range kind text key reads wrong
not_wrong kind text key OutOfMemory reads wrong ample = ample refl
not_wrong kind text key message reads wrong ample = wrong

one_message : (kind : KeyType) (text : List ℕ) (one other : Message) → ReadsKey kind text (Err one) → ReadsKey kind text (Err other) → IsAmple {X = Key} (Err one) → IsAmple {X = Key} (Err other) → one ≡ other
one_message kind text InvalidKey InvalidKey a b ample too = refl
one_message kind text InvalidKey OutOfMemory a b ample too = absurd (too refl)
one_message kind text InvalidKey other a b ample too = absurd b
one_message kind text OutOfMemory other a b ample too = absurd (ample refl)
one_message kind text one other a b ample too = absurd a

ok_same : {X : Type 0} (a b : X) → ◌≡◌ {A = Result X Message} (Ok a) (Ok b) → a ≡ b
ok_same a b e = cc

cells_same : (pairs : List (List ℕ)) (one other : List Cell) → cells_of pairs ≡ Ok one → cells_of pairs ≡ Ok other → one ≡ other
cells_same pairs one other a b = ok_same one other (sym a ∙ b)

module _ (one_key : ReadsOneKey) where
  filter_once : (kind : KeyType) (choice : Choice) (one other : Result Filter Message) → ReadsFilter kind choice one → ReadsFilter kind choice other → IsAmple one → IsAmple other → one ≡ other
  filter_once kind Everything one other a b ample too = a ∙ sym b
  filter_once kind (Compare name op value) one other a b ample too = a ∙ sym b
  filter_once kind (OneKey text) (Ok one) (Ok other) a b ample too = ap Ok (a.2 ∙ ap filters.Key (one_key kind text a.0 b.0 a.1 b.1) ∙ sym b.2)
  filter_once kind (OneKey text) (Ok one) (Err message) a b ample too = absurd (not_wrong kind text a.0 message a.1 b too)
  filter_once kind (OneKey text) (Err message) (Ok other) a b ample too = absurd (not_wrong kind text b.0 message b.1 a ample)
  filter_once kind (OneKey text) (Err one) (Err other) a b ample too = ap Err (one_message kind text one other a b ample too)

  -- what a filter is made into
  abbrev Makes : (Filter → Event) → KeyType → Choice → Result Event Message → Type 0
  Makes make kind choice (Ok event) = (filter : Filter) × ReadsFilter kind choice (Ok filter) × (event ≡ make filter)
  Makes make kind choice (Err message) = ReadsFilter kind choice (Err message)

  made_once : (make : Filter → Event) (kind : KeyType) (choice : Choice) (one other : Result Event Message) → Makes make kind choice one → Makes make kind choice other → IsAmple one → IsAmple other → one ≡ other
  made_once make kind choice (Ok one) (Ok other) a b ample too =
      ap Ok (a.2 ∙ ap make (ok_same a.0 b.0 (filter_once kind choice (Ok a.0) (Ok b.0) a.1 b.1 tt tt)) ∙ sym b.2)
  made_once make kind choice (Ok one) (Err message) a b ample too = let never : ◌≡◌ {A = Result Filter Message} (Ok a.0) (Err message) = filter_once kind choice (Ok a.0) (Err message) a.1 b tt too in cc
  made_once make kind choice (Err message) (Ok other) a b ample too = let never : ◌≡◌ {A = Result Filter Message} (Err message) (Ok b.0) = filter_once kind choice (Err message) (Ok b.0) a b.1 ample tt in cc
  made_once make kind choice (Err one) (Err other) a b ample too =
      let same : ◌≡◌ {A = Result Filter Message} (Err one) (Err other) = filter_once kind choice (Err one) (Err other) a b ample too in
      let message : one ≡ other = cc in
      ap Err message

  clear_once : (kind : KeyType) (moment : ℕ) (text : List ℕ) (one other : Result Event Message) → Asks kind moment (Clear (OneKey text)) one → Asks kind moment (Clear (OneKey text)) other → IsAmple one → IsAmple other → one ≡ other
  clear_once kind moment text (Ok one) (Ok other) a b ample too = ap Ok (a.2 ∙ ap (events.Clear moment) (one_key kind text a.0 b.0 a.1 b.1) ∙ sym b.2)
  clear_once kind moment text (Ok one) (Err message) a b ample too = absurd (not_wrong kind text a.0 message a.1 b too)
  clear_once kind moment text (Err message) (Ok other) a b ample too = absurd (not_wrong kind text b.0 message b.1 a ample)
  clear_once kind moment text (Err one) (Err other) a b ample too = ap Err (one_message kind text one other a b ample too)

  put_once : (kind : KeyType) (moment : ℕ) (text : List ℕ) (pairs : List (List ℕ)) (one other : Result Event Message) → ReadsPut kind moment text pairs one → ReadsPut kind moment text pairs other → IsAmple one → IsAmple other → one ≡ other
  put_once kind moment text pairs (Ok one) (Ok other) a b ample too =
      ap Ok (a.4 ∙ (λ k. Put moment (one_key kind text a.0 b.0 a.2 b.2 k) (cells_same pairs a.1 b.1 a.3 b.3 k)) ∙ sym b.4)
  put_once kind moment text pairs (Ok one) (Err message) a (inl wrong) ample too = absurd (not_wrong kind text a.0 message a.2 wrong too)
  put_once kind moment text pairs (Ok one) (Err message) a (inr (key, reads, inl wrong)) ample too = let never : ◌≡◌ {A = Result (List Cell) Message} (Ok a.1) (Err message) = sym a.3 ∙ wrong in cc
  put_once kind moment text pairs (Ok one) (Err message) a (inr (key, reads, inr memory)) ample too = absurd (too memory)
  put_once kind moment text pairs (Err message) (Ok other) (inl wrong) b ample too = absurd (not_wrong kind text b.0 message b.2 wrong ample)
  put_once kind moment text pairs (Err message) (Ok other) (inr (key, reads, inl wrong)) b ample too = let never : ◌≡◌ {A = Result (List Cell) Message} (Ok b.1) (Err message) = sym b.3 ∙ wrong in cc
  put_once kind moment text pairs (Err message) (Ok other) (inr (key, reads, inr memory)) b ample too = absurd (ample memory)
  put_once kind moment text pairs (Err one) (Err other) (inl wrong) (inl also) ample too = ap Err (one_message kind text one other wrong also ample too)
  put_once kind moment text pairs (Err one) (Err other) (inl wrong) (inr (key, reads, more)) ample too = absurd (not_wrong kind text key one reads wrong ample)
  put_once kind moment text pairs (Err one) (Err other) (inr (key, reads, more)) (inl also) ample too = absurd (not_wrong kind text key other reads also too)
  put_once kind moment text pairs (Err one) (Err other) (inr (key, reads, inl wrong)) (inr (again, spelled, inl also)) ample too =
      let same : ◌≡◌ {A = Result (List Cell) Message} (Err one) (Err other) = sym wrong ∙ also in
      let message : one ≡ other = cc in
      ap Err message
  put_once kind moment text pairs (Err one) (Err other) (inr (key, reads, inr memory)) b ample too = absurd (ample memory)
  put_once kind moment text pairs (Err one) (Err other) (inr (key, reads, inl wrong)) (inr (again, spelled, inr memory)) ample too = absurd (too memory)

  as_made : (kind : KeyType) (moment : ℕ) (choice : Choice) (asked : Result Event Message) → Asks kind moment (Show choice) asked → Makes (ListRows moment) kind choice asked
  as_made kind moment choice (Ok event) asks = asks
  as_made kind moment choice (Err message) asks = asks

  pub asks_once : (kind : KeyType) (moment : ℕ) (request : Request) (one other : Result Event Message) → Asks kind moment request one → Asks kind moment request other → IsAmple one → IsAmple other → one ≡ other
  asks_once kind moment (Show choice) one other a b ample too = made_once (ListRows moment) kind choice one other (as_made kind moment choice one a) (as_made kind moment choice other b) ample too
  asks_once kind moment (Clear (OneKey text)) one other a b ample too = clear_once kind moment text one other a b ample too
  asks_once kind moment (Clear Everything) (Ok one) (Ok other) a b ample too = made_once (ClearWhere moment) kind Everything (Ok one) (Ok other) a b ample too
  asks_once kind moment (Clear Everything) (Ok one) (Err other) a b ample too = made_once (ClearWhere moment) kind Everything (Ok one) (Err other) a b ample too
  asks_once kind moment (Clear Everything) (Err one) (Ok other) a b ample too = made_once (ClearWhere moment) kind Everything (Err one) (Ok other) a b ample too
  asks_once kind moment (Clear Everything) (Err one) (Err other) a b ample too = made_once (ClearWhere moment) kind Everything (Err one) (Err other) a b ample too
  asks_once kind moment (Clear (Compare name op value)) (Ok one) (Ok other) a b ample too = made_once (ClearWhere moment) kind (Compare name op value) (Ok one) (Ok other) a b ample too
  asks_once kind moment (Clear (Compare name op value)) (Ok one) (Err other) a b ample too = made_once (ClearWhere moment) kind (Compare name op value) (Ok one) (Err other) a b ample too
  asks_once kind moment (Clear (Compare name op value)) (Err one) (Ok other) a b ample too = made_once (ClearWhere moment) kind (Compare name op value) (Err one) (Ok other) a b ample too
  asks_once kind moment (Clear (Compare name op value)) (Err one) (Err other) a b ample too = made_once (ClearWhere moment) kind (Compare name op value) (Err one) (Err other) a b ample too
  asks_once kind moment (Set text pairs) one other a b ample too = put_once kind moment text pairs one other a b ample too

-- what a request asks is a command's event
pub asks_commanded : (kind : KeyType) (moment : ℕ) (request : Request) (event : Event) → Asks kind moment request (Ok event) → is_commanded event ≡ true
asks_commanded kind moment (Show choice) event asks = ap is_commanded asks.2
asks_commanded kind moment (Clear (OneKey text)) event asks = ap is_commanded asks.2
asks_commanded kind moment (Clear Everything) event asks = ap is_commanded asks.2
asks_commanded kind moment (Clear (Compare name op value)) event asks = ap is_commanded asks.2
asks_commanded kind moment (Set text pairs) event asks = ap is_commanded asks.4
