-- What a connection that tracked its source holds, and what its seats know of it, as one of them is told of a call more.
use Rattle.std.proofs.Common.{◌≡◌, ℕ, ◌≤◌, arith, refl, sym, ap, subst, ◌∙◌, Bool, true, false, nat_eq, List, [], ◌∷◌, ◌++◌, slice_get, Some}
use Rattle.std.specs.List.{list_any}
use mathlib.Core.List.{IsPrefix}
use Rattle.stick_key.specs.Shard.{shard}
use Rattle.stored_data.specs.Stored.{is_column}
use Rattle.stored_data.specs.declared.datum.Datum.TheVariants.{ConnCur}
use Rattle.stick_model.specs.Key.{Key}
use Rattle.stick_model.specs.declared.events.Event.{Event}
use Rattle.stick_model.specs.declared.events.Event.TheVariants as events
use Rattle.stick_model.specs.declared.replies.Reply.{Reply}
use Rattle.stick_model.specs.declared.replies.Reply.TheVariants as replies
use Rattle.stick_model.specs.declared.rows.Row.{Row}
use Rattle.stick_model.specs.declared.rows.Ticket.{Ticket}
use Rattle.stick_model.proofs.TestLemmas.{eq-from}
use Rattle.shard_record.specs.declared.view.Call.{Call as Noted}
use Rattle.shard_record.specs.Calls.{IsHistory, call}
use Rattle.shard_record.specs.Telling.{IsTold, log_of, number_of}
use Rattle.shard_record.proofs.Beginnings.{begins_itself}
use Rattle.shard_book.specs.Keeping.{part_of}
use Rattle.shard_book.specs.Kept.{IsMadeWith}
use Rattle.shard_book.specs.SeatState.{RefState}
use Rattle.shard_locks.specs.Ported.{seated_meaning}
use Rattle.shard_locks.specs.Shared.{IsOfShard}
use Rattle.shard_locks.specs.ShardsState.{SeatedState, ShardsState, book_of}
use Rattle.rule_model.specs.declared.actions.KeyExpression.TheVariants as keys
use Rattle.rule_model.specs.declared.sections.Setup.{Setup}
use Rattle.rule_eval.specs.Readings.{value_in}
use Rattle.rule_eval.specs.Tables.{key_of as source_key}
use Rattle.rule_eval.specs.declared.wants.Answer.{Answer}
use Rattle.rule_eval.specs.declared.wants.Samples.{Samples}
use Rattle.rule_eval.specs.declared.wants.Answer.TheVariants as answers
use Rattle.admit_core.specs.Connection.{Connection}
use Rattle.admit_port.specs.Calls.{AnswersAt, Call}
use Rattle.shard_locks.specs.Shared.{WasOut}
use Rattle.shard_locks.proofs.KeyLemmas.{was_later}
use Rattle.tcp_relay.specs.Passed.{shows_few}
use Rattle.tcp_relay.specs.Untracked.{known_of}
use Rattle.shard_locks.proofs.LastCalls.{key_out}
use Rattle.tcp_relay.proofs.PassedCalls.{any_later, look_few}
use Rattle.tcp_relay.proofs.PassedHeld.{IsJudged}
use Rattle.tcp_relay.proofs.PassedTold.{get_set_other, get_set_same, other_same, told_grows, told_history}

-- ---- what holds of a reference that was tracked first

-- of the seat of its table: by what that knows the reference was out by the key, on whose shard it is
pub record IsSeen (setup : Setup) (seats : List SeatedState) (key : Key) (entry : ℕ × RefState) : Type 0 where
  pub seat : SeatedState
  pub at : slice_get seats entry.0 ≡ Some seat
  pub on_shard : entry.1.shard ≡ shard key setup.shards
  pub history : IsHistory (known_of seat entry.1.shard)
  pub made : IsOfShard seat.table entry.1.shard seat.known
  pub of_key : WasOut (known_of seat entry.1.shard) entry.1.ticket key

-- whether it had a look of few
abbrev pub has_looked : ℕ → {setup : Setup} → {seats : List SeatedState} → {key : Key} → {entry : ℕ × RefState} → IsSeen setup seats key entry → Bool
has_looked limit {key = key} {entry = entry} seen = list_any (shows_few key limit entry.1.ticket) (known_of seen.seat entry.1.shard)

-- where a row of few came next, that was such a look
abbrev pub Looked : ℕ → Bool → List Answer → Type 0
Looked limit looked rest = (row : Row) (more : List Answer) → rest ≡ answers.Row row ∷ more → value_in row.cells ConnCur ≤ limit → looked ≡ true

-- what a connection holds by sc0 was tracked first, by the key of its source
pub record HasTracked (setup : Setup) (table limit : ℕ) (seats : List SeatedState) (connection : Connection RefState) (entry : ℕ × RefState) : Type 0 where
  pub source : Key
  pub is : source_key setup connection.samples keys.Source table ≡ Some source
  pub in_table : entry.0 ≡ table
  pub seen : IsSeen setup seats source entry
  pub rest : List Answer
  pub begins : connection.answers ≡ answers.Tracked ∷ rest
  pub looked : Looked limit (has_looked limit seen) rest

-- a connection while it is judged, and once it was; the table of the limit stores conn_cur
pub record IsLimited (setup : Setup) (samples : Samples) (table limit : ℕ) (seats : List SeatedState) (connection : Connection RefState) : Type 0 where
  pub stands : IsJudged setup samples connection
  pub current : (seat : SeatedState) → slice_get seats table ≡ Some seat → is_column seat.table.spec.columns ConnCur ≡ true
  pub tracked : (entry : ℕ × RefState) → connection.progress.held.sc0 ≡ Some entry → HasTracked setup table limit seats connection entry

pub looked_later : (limit : ℕ) (looked later : Bool) (rest : List Answer) → (looked ≡ true → later ≡ true) → Looked limit looked rest → Looked limit later rest
looked_later limit looked later rest grows was row more is few = grows (was row more is few)

-- as an answer more comes, only a row right behind the reference has to be such a look
pub looked_more : (limit : ℕ) (looked : Bool) (rest : List Answer) (answer : Answer) → ((row : Row) → rest ≡ [] → answer ≡ answers.Row row → value_in row.cells ConnCur ≤ limit → looked ≡ true) → Looked limit looked rest → Looked limit looked (rest ++ answer ∷ [])
looked_more limit looked [] answer last was row more is few = last row refl (cc (is)) few
looked_more limit looked (first ∷ rest) answer last was row more is few =
    let same : first ≡ answers.Row row = cc (is) in
    was row rest (ap (λ a. a ∷ rest) same) few

-- ---- a seat is told

pub same_seat : (a b : SeatedState) → Some a ≡ Some b → a ≡ b
same_seat a b e = cc

-- the seats after a call, as those of a reference
pub record HasGrown (old new : List SeatedState) (seat : SeatedState) (of part : ℕ) : Type 0 where
  pub later : SeatedState
  pub at : slice_get new of ≡ Some later
  pub more : IsPrefix (known_of seat part) (known_of later part)
  pub history : IsHistory (known_of seat part) → IsHistory (known_of later part)
  pub made : IsOfShard seat.table part seat.known → IsOfShard later.table part later.known

module _ (old new : List SeatedState) (asked : Call) (reply : Reply) (answers_it : AnswersAt seated_meaning old asked reply new) where
  told : IsTold (book_of answers_it.before.table asked.shard) asked.event reply answers_it.before.known answers_it.after.known
  told = answers_it.answers.recorded

  pub after_at : slice_get new asked.table ≡ Some answers_it.after
  after_at = ap (λ seats. slice_get seats asked.table) answers_it.others ∙ get_set_same old asked.table answers_it.after answers_it.before answers_it.at

  -- each seat is of the same table
  pub tables_stay : (of : ℕ) (P : ShardsState → Type 0) → ((seat : SeatedState) → slice_get old of ≡ Some seat → P seat.table) → (seat : SeatedState) → slice_get new of ≡ Some seat → P seat.table
  tables_stay of P had seat at = by (nat_eq of asked.table) refl
    where
      own : of ≡ asked.table → P seat.table
      own is =
          let it : seat ≡ answers_it.after = same_seat seat answers_it.after (sym at ∙ ap (slice_get new) is ∙ after_at) in
          subst (λ (s : SeatedState). P s.table) (sym it) (subst P (sym answers_it.answers.table) (had answers_it.before (ap (slice_get old) is ∙ answers_it.at)))

      by : (b : Bool) → nat_eq of asked.table ≡ b → P seat.table
      by true is = own (eq-from of asked.table is)
      by false is = had seat (sym (ap (λ seats. slice_get seats of) answers_it.others ∙ get_set_other old asked.table of answers_it.after is) ∙ at)

  -- the shard that was asked is of a table that was made so, and of each other it knows as much
  shard_stays : (part : ℕ) → IsOfShard answers_it.before.table part answers_it.before.known → IsOfShard answers_it.before.table part answers_it.after.known
  shard_stays part had = by (nat_eq (book_of answers_it.before.table part) (book_of answers_it.before.table asked.shard)) refl
    where
      own : book_of answers_it.before.table part ≡ book_of answers_it.before.table asked.shard → IsOfShard answers_it.before.table part answers_it.after.known
      own is =
          let same : part ≡ asked.shard = omega (arith, is) in
          subst (λ n. IsOfShard answers_it.before.table n answers_it.after.known) (sym same) answers_it.answers.of_shard

      by : (b : Bool) → nat_eq (book_of answers_it.before.table part) (book_of answers_it.before.table asked.shard) ≡ b → IsOfShard answers_it.before.table part answers_it.after.known
      by true is = own (eq-from (book_of answers_it.before.table part) (book_of answers_it.before.table asked.shard) is)
      by false is =
          subst (IsMadeWith (part_of answers_it.before.table.spec answers_it.before.table.shards part))
          (sym (other_same (book_of answers_it.before.table asked.shard) asked.event reply answers_it.before.known answers_it.after.known told (book_of answers_it.before.table part) is)) had

  -- its seat knows as much as before, or more
  pub seats_grow : (of part : ℕ) (seat : SeatedState) → slice_get old of ≡ Some seat → HasGrown old new seat of part
  seats_grow of part seat at = by (nat_eq of asked.table) refl
    where
      own : of ≡ asked.table → HasGrown old new seat of part
      own is =
          let was : seat ≡ answers_it.before = same_seat seat answers_it.before (sym at ∙ ap (slice_get old) is ∙ answers_it.at) in
          let book : book_of answers_it.after.table part ≡ book_of answers_it.before.table part = ap (λ (t : ShardsState). book_of t part) answers_it.answers.table in
          let knows : known_of answers_it.after part ≡ log_of (book_of answers_it.before.table part) answers_it.after.known = ap (λ b. log_of b answers_it.after.known) book in
          let first = book_of answers_it.before.table asked.shard in
          subst (λ (s : SeatedState). HasGrown old new s of part) (sym was) (record {
            later = answers_it.after;
            at = ap (slice_get new) is ∙ after_at;
            more = subst (IsPrefix (known_of answers_it.before part)) (sym knows) (told_grows first asked.event reply answers_it.before.known answers_it.after.known told (book_of answers_it.before.table part));
            history = λ had. subst IsHistory (sym knows) (told_history first asked.event reply answers_it.before.known answers_it.after.known told (book_of answers_it.before.table part) had);
            made = λ had. subst (λ (t : ShardsState). IsOfShard t part answers_it.after.known) (sym answers_it.answers.table) (shard_stays part had);
          })

      by : (b : Bool) → nat_eq of asked.table ≡ b → HasGrown old new seat of part
      by true is = own (eq-from of asked.table is)
      by false is = record {
        later = seat;
        at = ap (λ seats. slice_get seats of) answers_it.others ∙ get_set_other old asked.table of answers_it.after is ∙ at;
        more = begins_itself (known_of seat part);
        history = λ had. had;
        made = λ had. had;
      }

  -- so what was seen is seen still
  pub seen_still : (setup : Setup) (key : Key) (entry : ℕ × RefState) → IsSeen setup old key entry → IsSeen setup new key entry
  seen_still setup key entry seen =
      let grown = seats_grow entry.0 entry.1.shard seen.seat seen.at in
      record {
        seat = grown.later;
        at = grown.at;
        on_shard = seen.on_shard;
        history = grown.history seen.history;
        made = grown.made seen.made;
        of_key = was_later (known_of seen.seat entry.1.shard) (known_of grown.later entry.1.shard) entry.1.ticket key grown.more seen.of_key;
      }

  pub looked_still : (setup : Setup) (key : Key) (entry : ℕ × RefState) (limit : ℕ) (seen : IsSeen setup old key entry) → has_looked limit seen ≡ true → has_looked limit (seen_still setup key entry seen) ≡ true
  unfolding seen_still
  looked_still setup key entry limit seen looked =
      let grown = seats_grow entry.0 entry.1.shard seen.seat seen.at in
      any_later (shows_few key limit entry.1.ticket) (known_of seen.seat entry.1.shard) (known_of grown.later entry.1.shard) grown.more looked

-- what the seat that was told knows now of the shard's book
pub knows_after : (old new : List SeatedState) (asked : Call) (reply : Reply) (by : AnswersAt seated_meaning old asked reply new) (part : ℕ) → known_of by.after part ≡ log_of (book_of by.before.table part) by.after.known
knows_after old new asked reply by part = ap (λ (t : ShardsState). log_of (book_of t part) by.after.known) by.answers.table

-- ---- what a reply tells of a reference

-- of a new one, that it is of the key that was asked
pub told_track : (setup : Setup) (old new : List SeatedState) (table part now : ℕ) (key : Key) (given : Ticket) (row : Row) → AnswersAt seated_meaning old (record { table = table; shard = part; event = events.Track now key }) (replies.Tracked given row) new
    → part ≡ shard key setup.shards → IsSeen setup new key (table, record { shard = part; ticket = given })
told_track setup old new table part now key given row by on_shard =
    let asked : Call = record { table = table; shard = part; event = events.Track now key } in
    let told_so : IsTold (book_of by.before.table part) (events.Track now key) (replies.Tracked given row) by.before.known by.after.known = by.answers.recorded in
    let before : List Noted = log_of (book_of by.before.table part) by.before.known ++ told_so.between in
    let number = number_of (book_of by.before.table part) by.before.known in
    let knows : known_of by.after part ≡ before ++ call number (events.Track now key) (replies.Tracked given row) ∷ [] = knows_after old new asked (replies.Tracked given row) by part ∙ told_so.log in
    let history : IsHistory (before ++ call number (events.Track now key) (replies.Tracked given row) ∷ []) = subst IsHistory told_so.log told_so.history in
    record {
      seat = by.after;
      at = after_at old new asked (replies.Tracked given row) by;
      on_shard = on_shard;
      history = subst IsHistory (sym knows) history;
      made = subst (λ (t : ShardsState). IsOfShard t part by.after.known) (sym by.answers.table) by.answers.of_shard;
      of_key = subst (λ log. WasOut log given key) (sym knows) (key_out before number now key given row history);
    }

-- of one that was out, that a row of few is its look's
pub told_look : (setup : Setup) (old new : List SeatedState) (entry : ℕ × RefState) (now limit : ℕ) (key : Key) (row : Row) → AnswersAt seated_meaning old (record { table = entry.0; shard = entry.1.shard; event = events.Look now entry.1.ticket }) (replies.Row row) new
    → IsSeen setup old key entry → (seen : IsSeen setup new key entry) → value_in row.cells ConnCur ≤ limit → has_looked limit seen ≡ true
told_look setup old new entry now limit key row by was seen few =
    let asked : Call = record { table = entry.0; shard = entry.1.shard; event = events.Look now entry.1.ticket } in
    let look : Event = events.Look now entry.1.ticket in
    let book = book_of by.before.table entry.1.shard in
    let told_so : IsTold book look (replies.Row row) by.before.known by.after.known = by.answers.recorded in
    let known : List Noted = log_of book by.before.known in
    let number = number_of book by.before.known in
    let its : was.seat ≡ by.before = same_seat was.seat by.before (sym was.at ∙ by.at) in
    let out : WasOut known entry.1.ticket key = subst (λ (s : SeatedState). WasOut (known_of s entry.1.shard) entry.1.ticket key) its was.of_key in
    let out_then : WasOut (known ++ told_so.between) entry.1.ticket key = was_later known (known ++ told_so.between) entry.1.ticket key (told_so.between, refl) out in
    let looked = look_few (known ++ told_so.between) number now limit entry.1.ticket key row (subst IsHistory told_so.log told_so.history) out_then few in
    let now_it : seen.seat ≡ by.after = same_seat seen.seat by.after (sym seen.at ∙ after_at old new asked (replies.Row row) by) in
    let knows : known_of seen.seat entry.1.shard ≡ (known ++ told_so.between) ++ call number look (replies.Row row) ∷ [] =
    ap (λ (s : SeatedState). known_of s entry.1.shard) now_it ∙ knows_after old new asked (replies.Row row) by entry.1.shard ∙ told_so.log in
    subst (λ log. list_any (shows_few key limit entry.1.ticket) log ≡ true) (sym knows) looked
