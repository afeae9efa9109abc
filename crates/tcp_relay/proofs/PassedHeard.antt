-- A connection that hears a shard's reply holds by sc0 what it tracked first, still.
use Rattle.std.proofs.Common.{◌≡◌, ⊎_elim, ℕ, ◌≤◌, refl, sym, ap, subst, ◌∙◌, Bool, true, false, not, if◌then◌else◌, List, [], ◌∷◌, ◌++◌, Option, Some, None}
use Rattle.std.proofs.lemmas.Bool.{false≢true}
use Rattle.stick_key.specs.Shard.{shard}
use Rattle.stored_data.specs.Stored.{is_column}
use Rattle.stored_data.specs.declared.datum.Datum.TheVariants.{ConnCur}
use Rattle.stick_model.specs.Key.{Key}
use Rattle.stick_model.specs.declared.events.Event.TheVariants as events
use Rattle.stick_model.specs.declared.replies.Reply.{Reply}
use Rattle.stick_model.specs.declared.replies.Reply.TheVariants as replies
use Rattle.stick_model.specs.declared.rows.Row.{Row}
use Rattle.stick_model.specs.declared.rows.Ticket.{Ticket}
use Rattle.shard_port.specs.Port.{came_with}
use Rattle.shard_book.specs.SeatState.{RefState}
use Rattle.shard_locks.specs.Ported.{seated_meaning}
use Rattle.shard_locks.specs.ShardsState.{SeatedState, ShardsState}
use Rattle.rule_model.specs.declared.actions.KeyExpression.TheVariants as keys
use Rattle.rule_model.specs.declared.actions.Slot.TheVariants.{Sc0}
use Rattle.rule_model.specs.declared.sections.Setup.{Setup}
use Rattle.rule_eval.specs.Left.{is_done}
use Rattle.rule_eval.specs.Limit.{LimitsFirst, wants_sc0}
use Rattle.rule_eval.specs.Readings.{value_in}
use Rattle.rule_eval.specs.Tables.{key_of as source_key}
use Rattle.rule_eval.specs.Verdict.{next}
use Rattle.rule_eval.specs.declared.wants.Answer.{Answer}
use Rattle.rule_eval.specs.declared.wants.Answer.TheVariants as answers
use Rattle.rule_eval.specs.declared.wants.Samples.{Samples}
use Rattle.rule_eval.specs.declared.wants.Want.{Want}
use Rattle.rule_eval.specs.declared.wants.Want.TheVariants as wants
use Rattle.rule_eval.proofs.LimitLaws.{first_lem, never_lem, once_lem, second_lem}
use Rattle.admit_core.specs.Connection.{Connection, Progress, asks, heard as heard_by, is_judged, judging, need, took}
use Rattle.admit_core.specs.declared.need.Need.TheVariants as needs
use Rattle.admit_port.specs.Calls.{AnswersAt, Call, IsAskedBy, IsAskedFor, answer_of, heard}
use Rattle.tcp_relay.proofs.PassedHeld.{HasCome, HasTaken, gave_same, sc0_after, taken, taken_judged, wants_judging}
use Rattle.tcp_relay.proofs.PassedSeats.{HasTracked, IsLimited, IsSeen, Looked, has_looked, looked_later, looked_more, looked_still, seen_still, tables_stay, told_look, told_track}

-- ---- what a reply tells

pub heard_took : (connection : Connection RefState) (at : ℕ) (reply : Reply) → connection.progress.given ≡ None → is_judged connection.progress.phase ≡ true → heard seated_meaning connection at reply ≡ took connection (answer_of reply) (came_with seated_meaning at reply)
heard_took connection at replies.Released none judged = ap (λ (c : Connection RefState). took c answers.Released None) (gave_same connection none judged)
heard_took connection at replies.Absent none judged = refl
heard_took connection at (replies.Row row) none judged = refl
heard_took connection at replies.NoRefs none judged = refl
heard_took connection at replies.Full none judged = refl
heard_took connection at (replies.Tracked given row) none judged = refl
heard_took connection at (replies.Value value) none judged = refl
heard_took connection at (replies.NotSettable field) none judged = refl
heard_took connection at (replies.NotStored field) none judged = refl
heard_took connection at (replies.Written created) none judged = refl
heard_took connection at replies.InUse none judged = refl
heard_took connection at replies.Removed none judged = refl
heard_took connection at (replies.Cleared removed kept) none judged = refl
heard_took connection at (replies.Rows used rows) none judged = refl
heard_took connection at (replies.Expired count) none judged = refl

row_reply : (reply : Reply) (row : Row) → answer_of reply ≡ answers.Row row → reply ≡ replies.Row row
row_reply (replies.Row shown) row is = cc
row_reply replies.Absent row is = cc
row_reply replies.NoRefs row is = cc
row_reply replies.Full row is = cc
row_reply (replies.Tracked given shown) row is = cc
row_reply (replies.Value value) row is = cc
row_reply replies.Released row is = cc
row_reply (replies.NotSettable field) row is = cc
row_reply (replies.NotStored field) row is = cc
row_reply (replies.Written created) row is = cc
row_reply replies.InUse row is = cc
row_reply replies.Removed row is = cc
row_reply (replies.Cleared removed kept) row is = cc
row_reply (replies.Rows used rows) row is = cc
row_reply (replies.Expired count) row is = cc

-- a reference comes with a new ticket alone
record IsTracked (at : ℕ) (reply : Reply) (reference : RefState) : Type 0 where
  given : Ticket
  row : Row
  reply_is : reply ≡ replies.Tracked given row
  is : reference ≡ record { shard = at; ticket = given }

the_reference : (a b : RefState) → Some a ≡ Some b → b ≡ a
the_reference a b e = cc

tracked_reply : (at : ℕ) (reply : Reply) (reference : RefState) → came_with seated_meaning at reply ≡ Some reference → IsTracked at reply reference
tracked_reply at (replies.Tracked given row) reference is = record { given = given; row = row; reply_is = refl; is = the_reference (record { shard = at; ticket = given }) reference is }
tracked_reply at (replies.Row row) reference is = cc
tracked_reply at replies.Absent reference is = cc
tracked_reply at replies.NoRefs reference is = cc
tracked_reply at replies.Full reference is = cc
tracked_reply at (replies.Value value) reference is = cc
tracked_reply at replies.Released reference is = cc
tracked_reply at (replies.NotSettable field) reference is = cc
tracked_reply at (replies.NotStored field) reference is = cc
tracked_reply at (replies.Written created) reference is = cc
tracked_reply at replies.InUse reference is = cc
tracked_reply at replies.Removed reference is = cc
tracked_reply at (replies.Cleared removed kept) reference is = cc
tracked_reply at (replies.Rows used rows) reference is = cc
tracked_reply at (replies.Expired count) reference is = cc

no_answer : (answer : Answer) (rest : List Answer) → answer ∷ rest ≡ [] → ⊥
no_answer answer rest e = cc

-- ---- a connection hears a reply

module _ (setup : Setup) (samples : Samples) (name : List ℕ) (table limit now : ℕ) (old new : List SeatedState) (connection : Connection RefState) (asked : Call) (reply : Reply)
    (first : LimitsFirst setup name table limit) (limited : IsLimited setup samples table limit old connection) (judged : is_judged connection.progress.phase ≡ true)
    (wants_it : IsAskedFor seated_meaning connection.setup.shards now connection.progress.held (need connection) asked) (answers_it : AnswersAt seated_meaning old asked reply new) where
  abbrev rules_ask : List Answer → Want
  rules_ask given = next setup connection.samples given

  asks_is : (given : List Answer) → connection.answers ≡ given → asks connection ≡ rules_ask given
  asks_is given at = ap (λ s. next s connection.samples connection.answers) limited.stands.ours ∙ ap (next setup connection.samples) at

  need_is : (want : Want) → asks connection ≡ want → need connection ≡ judging want connection.progress
  need_is want at = wants_judging connection limited.stands.given judged ∙ ap (λ w. judging w connection.progress) at

  -- ---- a look

  -- a row of few, right behind the reference, is of a look of few
  module _ (entry : ℕ × RefState) (held : connection.progress.held.sc0 ≡ Some entry) (tracked : HasTracked setup table limit old connection entry) (row : Row) (none : tracked.rest ≡ []) (shows : answer_of reply ≡ answers.Row row) (few : value_in row.cells ConnCur ≤ limit) where
    looks_at : need connection ≡ needs.Look Sc0
    looks_at = need_is (wants.Look Sc0) (asks_is (answers.Tracked ∷ []) (tracked.begins ∙ ap (λ r. answers.Tracked ∷ r) none) ∙ second_lem setup name table limit connection.samples tracked.source first tracked.is)

    looks_by : asked ≡ record { table = entry.0; shard = entry.1.shard; event = events.Look now entry.1.ticket }
    looks_by =
        let by_slot : IsAskedFor seated_meaning connection.setup.shards now connection.progress.held (needs.Look Sc0) asked = subst (λ n. IsAskedFor seated_meaning connection.setup.shards now connection.progress.held n asked) looks_at wants_it in
        subst (λ o. IsAskedBy seated_meaning (λ ticket. events.Look now ticket) o asked) held by_slot

    passes : (seen : IsSeen setup new tracked.source entry) → has_looked limit seen ≡ true
    passes seen =
        let by : AnswersAt seated_meaning old (record { table = entry.0; shard = entry.1.shard; event = events.Look now entry.1.ticket }) (replies.Row row) new =
        subst (λ r. AnswersAt seated_meaning old (record { table = entry.0; shard = entry.1.shard; event = events.Look now entry.1.ticket }) r new) (row_reply reply row shows)
        (subst (λ c. AnswersAt seated_meaning old c reply new) looks_by answers_it) in
        told_look setup old new entry now limit tracked.source row by tracked.seen seen few

  -- ---- it holds the same

  abbrev answered : Answer → List Answer
  answered answer = if not (is_done (asks connection)) then connection.answers ++ answer ∷ [] else connection.answers

  -- what was tracked first is so still
  still : (after : Connection RefState) (entry : ℕ × RefState) → connection.progress.held.sc0 ≡ Some entry → after.samples ≡ connection.samples → after.answers ≡ answered (answer_of reply) → HasTracked setup table limit new after entry
  still after entry held same given =
      let tracked : HasTracked setup table limit old connection entry = limited.tracked entry held in
      let seen : IsSeen setup new tracked.source entry = seen_still old new asked reply answers_it setup tracked.source entry tracked.seen in
      let looked : Looked limit (has_looked limit seen) tracked.rest =
      looked_later limit (has_looked limit tracked.seen) (has_looked limit seen) tracked.rest (looked_still old new asked reply answers_it setup tracked.source entry limit tracked.seen) tracked.looked in
      let more : Looked limit (has_looked limit seen) (tracked.rest ++ answer_of reply ∷ []) =
      looked_more limit (has_looked limit seen) tracked.rest (answer_of reply) (λ row none shows few. passes entry held tracked row none shows few seen) looked in
      by_done (not (is_done (asks connection))) after entry same tracked seen looked more given
    where
      by_done : (b : Bool) (after : Connection RefState) (entry : ℕ × RefState) → after.samples ≡ connection.samples → (tracked : HasTracked setup table limit old connection entry) → (seen : IsSeen setup new tracked.source entry) → Looked limit (has_looked limit seen) tracked.rest
          → Looked limit (has_looked limit seen) (tracked.rest ++ answer_of reply ∷ []) → after.answers ≡ (if b then connection.answers ++ answer_of reply ∷ [] else connection.answers) → HasTracked setup table limit new after entry
      by_done true after entry same tracked seen looked more given = record {
        source = tracked.source;
        is = ap (λ known. source_key setup known keys.Source table) same ∙ tracked.is;
        in_table = tracked.in_table;
        seen = seen;
        rest = tracked.rest ++ answer_of reply ∷ [];
        begins = given ∙ ap (λ had. had ++ answer_of reply ∷ []) tracked.begins;
        looked = more;
      }
      by_done false after entry same tracked seen looked more given = record {
        source = tracked.source;
        is = ap (λ known. source_key setup known keys.Source table) same ∙ tracked.is;
        in_table = tracked.in_table;
        seen = seen;
        rest = tracked.rest;
        begins = given ∙ tracked.begins;
        looked = looked;
      }

  -- ---- a reference came

  record IsFirst (number : ℕ) (subject : Key) : Type 0 where
    source : source_key setup connection.samples keys.Source table ≡ Some subject
    in_table : number ≡ table
    none : connection.answers ≡ []

  -- the first one is asked for at once, in the table and of the source
  asked_first : (number : ℕ) (subject : Key) → asks connection ≡ wants.Track Sc0 number subject → IsFirst number subject
  asked_first number subject want = by (source_key setup connection.samples keys.Source table) connection.answers refl refl
    where
      by : (o : Option Key) (given : List Answer) → source_key setup connection.samples keys.Source table ≡ o → connection.answers ≡ given → IsFirst number subject
      by None given none at = absurd (false≢true (sym (never_lem setup name table limit connection.samples given first none) ∙ ap wants_sc0 (sym (asks_is given at) ∙ want)))
      by (Some source) [] some at =
          let one : wants.Track Sc0 table source ≡ wants.Track Sc0 number subject = sym (first_lem setup name table limit connection.samples source first some) ∙ (sym (asks_is [] at) ∙ want) in
          let of_source : source ≡ subject = cc (one) in
          let in_table : number ≡ table = cc (one) in
          record { source = some ∙ ap Some of_source; in_table = in_table; none = at }
      by (Some source) (answer ∷ more) some at = absurd (false≢true (sym (once_lem setup name table limit connection.samples answer more first) ∙ ap wants_sc0 (sym (asks_is (answer ∷ more) at) ∙ want)))

  came_first : (after : Connection RefState) (entry : Option (ℕ × RefState)) → HasCome (asks connection) (came_with seated_meaning asked.shard reply) entry → after.samples ≡ connection.samples → after.answers ≡ answered (answer_of reply)
      → (held : ℕ × RefState) → entry ≡ Some held → HasTracked setup table limit new after held
  came_first after entry come same given held at =
      let of_ticket = tracked_reply asked.shard reply come.reference come.came_it in
      let begins = asked_first come.table come.key come.wanted in
      let wanted : need connection ≡ needs.Track Sc0 come.table come.key = need_is (wants.Track Sc0 come.table come.key) come.wanted in
      let named : asked ≡ record { table = come.table; shard = shard come.key connection.setup.shards; event = events.Track now come.key } =
      subst (λ n. IsAskedFor seated_meaning connection.setup.shards now connection.progress.held n asked) wanted wants_it in
      let part : ℕ = shard come.key connection.setup.shards in
      let by : AnswersAt seated_meaning old (record { table = come.table; shard = part; event = events.Track now come.key }) (replies.Tracked of_ticket.given of_ticket.row) new =
      subst (λ r. AnswersAt seated_meaning old (record { table = come.table; shard = part; event = events.Track now come.key }) r new) of_ticket.reply_is (subst (λ c. AnswersAt seated_meaning old c reply new) named answers_it) in
      let seen : IsSeen setup new come.key (come.table, record { shard = part; ticket = of_ticket.given }) = told_track setup old new come.table part now come.key of_ticket.given of_ticket.row by (ap (λ (s : Setup). shard come.key s.shards) limited.stands.ours) in
      let itself : (come.table, record { shard = part; ticket = of_ticket.given }) ≡ held = the_entry (come.table, record { shard = part; ticket = of_ticket.given }) held
      (ap (λ n. Some (come.table, record { shard = n; ticket = of_ticket.given })) (sym (ap (λ (c : Call). c.shard) named)) ∙ ap (λ r. Some (come.table, r)) (sym of_ticket.is) ∙ sym come.held ∙ at) in
      let tracked : HasTracked setup table limit new after (come.table, record { shard = part; ticket = of_ticket.given }) = record {
        source = come.key;
        is = ap (λ known. source_key setup known keys.Source table) same ∙ begins.source;
        in_table = begins.in_table;
        seen = seen;
        rest = [];
        begins = given ∙ (λ k. if not (is_done (come.wanted k)) then begins.none k ++ answer_of (of_ticket.reply_is k) ∷ [] else begins.none k);
        looked = λ row more none few. absurd (no_answer (answers.Row row) more (sym none));
      } in
      subst (λ e. HasTracked setup table limit new after e) itself tracked
    where
      the_entry : (a b : ℕ × RefState) → Some a ≡ Some b → a ≡ b
      the_entry a b e = cc

  -- ---- whatever is replied

  heard_so : (after : Connection RefState) → HasTaken connection after (answer_of reply) (came_with seated_meaning asked.shard reply) → IsLimited setup samples table limit new after
  heard_so after took_it = record {
    current = tables_stay old new asked reply answers_it table (λ (t : ShardsState). is_column t.spec.columns ConnCur ≡ true) limited.current;
    stands = taken_judged setup samples connection after (answer_of reply) (came_with seated_meaning asked.shard reply) limited.stands judged took_it;
    tracked = ⊎_elim same come (sc0_after (asks connection) connection.progress (came_with seated_meaning asked.shard reply));
  }
    where
      progress_is : after.progress.held.sc0 ≡ (heard_by (asks connection) connection.progress (came_with seated_meaning asked.shard reply)).held.sc0
      progress_is = ap (λ (p : Progress RefState). p.held.sc0) took_it.progress

      same : (heard_by (asks connection) connection.progress (came_with seated_meaning asked.shard reply)).held.sc0 ≡ connection.progress.held.sc0 → (entry : ℕ × RefState) → after.progress.held.sc0 ≡ Some entry → HasTracked setup table limit new after entry
      same kept entry at = still after entry (sym kept ∙ sym progress_is ∙ at) took_it.samples took_it.answers

      come : HasCome (asks connection) (came_with seated_meaning asked.shard reply) (heard_by (asks connection) connection.progress (came_with seated_meaning asked.shard reply)).held.sc0 → (entry : ℕ × RefState) → after.progress.held.sc0 ≡ Some entry → HasTracked setup table limit new after entry
      come it entry at = came_first after (heard_by (asks connection) connection.progress (came_with seated_meaning asked.shard reply)).held.sc0 it took_it.samples took_it.answers entry (sym progress_is ∙ at)

  pub hears : IsLimited setup samples table limit new (heard seated_meaning connection asked.shard reply)
  hears =
      subst (IsLimited setup samples table limit new) (sym (heard_took connection asked.shard reply limited.stands.given judged))
      (heard_so (took connection (answer_of reply) (came_with seated_meaning asked.shard reply)) (taken connection (answer_of reply) (came_with seated_meaning asked.shard reply) limited.stands.given judged))
