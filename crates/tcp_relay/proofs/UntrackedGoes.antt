-- A connection that is admitted without a reference to its source was given none.
use Rattle.std.proofs.Common.{◌≡◌, ◌⊎◌, inl, inr, ⊎_elim, ℕ, zero, suc, refl, sym, ap, subst, ◌∙◌, Bool, true, false, nat_eq, ◌&&◌, nat_le, List, [], ◌∷◌, ◌++◌, append_assoc, length, slice_get, Option, Some, None}
use Rattle.std.specs.List.{list_any}
use Rattle.std.proofs.lemmas.Bool.{false≢true}
use mathlib.Core.List.{IsPrefix}
use Rattle.stick_key.specs.Shard.{shard}
use Rattle.stick_model.specs.Key.{Key}
use Rattle.stick_model.specs.Room.{stored_in}
use Rattle.stick_model.specs.State.{State}
use Rattle.stick_model.specs.Step.{Outcome, Step, begun, connected, tracked}
use Rattle.stick_model.specs.declared.events.Event.TheVariants as events
use Rattle.stick_model.specs.declared.replies.Reply.{Reply}
use Rattle.stick_model.specs.declared.replies.Reply.TheVariants as replies
use Rattle.stick_model.specs.declared.rows.Record.{Record}
use Rattle.stick_model.specs.declared.rows.Row.{Row}
use Rattle.stick_model.specs.declared.rows.Ticket.{Ticket}
use Rattle.stick_model.proofs.KeyLemmas.{same_key-refl}
use Rattle.stick_model.proofs.StepCases.{of_mapped, of_test}
use Rattle.stick_model.proofs.TestLemmas.{eq-from}
use Rattle.shard_record.specs.declared.view.Call.{Call as Noted}
use Rattle.shard_record.specs.Calls.{IsHistory, call}
use Rattle.shard_record.specs.Telling.{IsTold, log_of, number_of}
use Rattle.shard_record.proofs.Beginnings.{begins_further, begins_itself}
use Rattle.shard_port.specs.Port.{came_with}
use Rattle.shard_book.specs.SeatState.{RefState}
use Rattle.shard_locks.specs.Ported.{seated_meaning}
use Rattle.shard_locks.specs.ShardsState.{SeatedState, ShardsState, book_of}
use Rattle.shard_locks.proofs.LastCalls.{HasEnded, any_last, ended}
use Rattle.rule_model.specs.declared.actions.KeyExpression.TheVariants as keys
use Rattle.rule_model.specs.declared.actions.Slot.TheVariants.{Sc0}
use Rattle.rule_model.specs.declared.sections.Setup.{Setup}
use Rattle.rule_eval.specs.Limit.{LimitsFirst, wants_sc0}
use Rattle.rule_eval.specs.Tables.{key_of as source_key}
use Rattle.rule_eval.specs.Verdict.{next}
use Rattle.rule_eval.specs.declared.wants.Samples.{Samples}
use Rattle.rule_eval.specs.declared.wants.Verdict.TheVariants.{Accept}
use Rattle.rule_eval.specs.declared.wants.Want.{Want}
use Rattle.rule_eval.specs.declared.wants.Want.TheVariants as wants
use Rattle.rule_eval.proofs.LimitLaws.{first_lem}
use Rattle.admit_core.specs.Conn.{needed, progress_of, Stands}
use Rattle.admit_core.specs.Connection.{Connection, Progress, arrived, asks, heard as heard_by, is_judged, judging, need, took}
use Rattle.admit_core.specs.declared.conn.Conn.{Conn}
use Rattle.admit_core.specs.declared.need.Need.TheVariants as needs
use Rattle.admit_core.specs.declared.need.Phase.TheVariants.{Admitted}
use Rattle.admit_port.proofs.CommonLemmas.{need_same}
use Rattle.admit_port.specs.Calls.{AnswersAt, Call, IsAskedFor, answer_of, heard}
use Rattle.admit_port.specs.Moves.{Moves}
use Rattle.admit_port.specs.Visit.{GoesJudged, HasGoneJudged, Visit}
use Rattle.admit_port.specs.declared.moved.Moved.{Moved}
use Rattle.admit_port.specs.declared.moved.Moved.TheVariants as moved_so
use Rattle.tcp_relay.specs.Untracked.{HasGivenNone, IsUntrackedFor, IsUntrackedSince, WasGivenNone, gives_none, is_none_for, known_of, number_at}
use Rattle.tcp_relay.proofs.PassedCalls.{any_later}
use Rattle.tcp_relay.proofs.PassedGoes.{rests_admitted}
use Rattle.tcp_relay.proofs.PassedHeard.{heard_took}
use Rattle.tcp_relay.proofs.PassedHeld.{HasCome, HasTaken, HoldsSame, IsJudged, refused_judged, sc0_after, taken, taken_judged, turned_judged, wants_judging}
use Rattle.tcp_relay.proofs.PassedSeats.{after_at, knows_after, same_seat, seats_grow}
use Rattle.tcp_relay.proofs.PassedTold.{get_set_other, number_same, told_grows}

-- ---- what a track is answered

-- a reference, or that there is none
abbrev AnswersTrack : Reply → Type 0
AnswersTrack (replies.Tracked given row) = Unit {0}
AnswersTrack replies.NoRefs = Unit {0}
AnswersTrack replies.Full = Unit {0}
AnswersTrack reply = ⊥

answers_track : (old : State) (now : ℕ) (key : Key) (reply : Reply) (new : State) → Step old (events.Track now key) reply new → AnswersTrack reply
answers_track old now key reply new step =
    let Q : Reply → State → Type 0 = λ r s. AnswersTrack r in
    let state : State = begun old now in
    let kept : Record = connected state key in
    subst (λ (o : Outcome). Q o.0 o.1) step.gives
    (of_test Q (nat_le state.spec.max_refs (length state.tickets)) (replies.NoRefs, state) _ (λ _. tt)
    (λ _. of_mapped Q (λ rs. record state { records = rs }) (tracked state key kept _) (stored_in state.spec state.tickets state.records key kept) (replies.Full, state) (λ rs is. tt) tt))

-- where none came with it, it gave none
none_came : (at : ℕ) (reply : Reply) → AnswersTrack reply → came_with seated_meaning at reply ≡ None → gives_none reply ≡ true
none_came at replies.NoRefs so none = refl
none_came at replies.Full so none = refl
none_came at (replies.Tracked given row) so none = cc
none_came at (replies.Row row) so none = absurd so
none_came at replies.Absent so none = absurd so
none_came at (replies.Value value) so none = absurd so
none_came at replies.Released so none = absurd so
none_came at (replies.NotSettable field) so none = absurd so
none_came at (replies.NotStored field) so none = absurd so
none_came at (replies.Written created) so none = absurd so
none_came at replies.InUse so none = absurd so
none_came at replies.Removed so none = absurd so
none_came at (replies.Cleared removed kept) so none = absurd so
none_came at (replies.Rows used rows) so none = absurd so
none_came at (replies.Expired count) so none = absurd so

-- so the last call of a record gave none
last_gave_none : (log : List Noted) (seat now at : ℕ) (key : Key) (reply : Reply) → IsHistory (log ++ call seat (events.Track now key) reply ∷ []) → came_with seated_meaning at reply ≡ None → gives_none reply ≡ true
last_gave_none log seat now at key reply is none =
    let end : HasEnded log (events.Track now key) reply = ended log seat (events.Track now key) reply is in
    none_came at reply (answers_track end.before now key reply end.live end.answers.step) none

-- one that comes for sc0 is held by it
came_held : {R : Type 0} (want : Want) (table : ℕ) (key : Key) (progress : Progress R) (came : Option R) → want ≡ wants.Track Sc0 table key → (heard_by want progress came).held.sc0 ≡ None → came ≡ None
came_held {R = R} want table key progress came is none = by came (subst (λ (w : Want). (heard_by w progress came).held.sc0 ≡ None) is none)
  where
    by : (came : Option R) → (heard_by (wants.Track Sc0 table key) progress came).held.sc0 ≡ None → came ≡ None
    by None empty = refl
    by (Some reference) empty = cc

-- ---- as a seat is told of a call more

some_none : {X : Type 0} (x : X) → Some x ≡ None → ⊥
some_none x e = cc

-- what a seat was told since stays told
given_later : (shards : ℕ) (start old new : List SeatedState) (table : ℕ) (key : Key) (asked : Call) (reply : Reply) → AnswersAt seated_meaning old asked reply new → WasGivenNone shards start old table key → WasGivenNone shards start new table key
given_later shards start old new table key asked reply by given =
    let grown = seats_grow old new asked reply by table (shard key shards) given.seat given.at in
    let first : List Noted = known_of given.was (shard key shards) ++ given.before in
    let one : Noted = call (number_at given.was (shard key shards)) (events.Track given.now key) given.reply in
    record {
      was = given.was;
      was_at = given.was_at;
      seat = grown.later;
      at = grown.at;
      now = given.now;
      reply = given.reply;
      before = given.before;
      after = given.after ++ grown.more.0;
      known = sym grown.more.1 ∙ ap (λ l. l ++ grown.more.0) given.known ∙ append_assoc first (one ∷ given.after) grown.more.0;
      none = given.none;
    }

module _ (setup : Setup) (table : ℕ) (key : Key) (start : List SeatedState) where
  abbrev part : ℕ
  part = shard key setup.shards

  -- what the seat of the table knew at the start is a beginning of what it knows, and its number is the same
  record HasBegun (seat : SeatedState) : Type 0 where
    was : SeatedState
    was_at : slice_get start table ≡ Some was
    more : IsPrefix (known_of was part) (known_of seat part)
    number : number_at seat part ≡ number_at was part

  abbrev HaveBegun : List SeatedState → Type 0
  HaveBegun seats = (seat : SeatedState) → slice_get seats table ≡ Some seat → HasBegun seat

  module _ (old new : List SeatedState) (asked : Call) (reply : Reply) (by : AnswersAt seated_meaning old asked reply new) where
    told : IsTold (book_of by.before.table asked.shard) asked.event reply by.before.known by.after.known
    told = by.answers.recorded

    knows_more : IsPrefix (known_of by.before part) (known_of by.after part)
    knows_more = subst (IsPrefix (known_of by.before part)) (sym (knows_after old new asked reply by part)) (told_grows (book_of by.before.table asked.shard) asked.event reply by.before.known by.after.known told (book_of by.before.table part))

    same_number : number_at by.after part ≡ number_at by.before part
    same_number =
        ap (λ (t : ShardsState). number_of (book_of t part) by.after.known) by.answers.table
        ∙ number_same (book_of by.before.table asked.shard) asked.event reply by.before.known by.after.known told (book_of by.before.table part)

    later : HasBegun by.before → HasBegun by.after
    later had = record {
      was = had.was;
      was_at = had.was_at;
      more = begins_further (known_of had.was part) (known_of by.before part) (known_of by.after part) had.more knows_more;
      number = same_number ∙ had.number;
    }

    begun_told : HaveBegun old → HaveBegun new
    begun_told had seat at = cases (nat_eq table asked.table) refl
      where
        own : table ≡ asked.table → HasBegun seat
        own is =
            let it : seat ≡ by.after = same_seat seat by.after (sym at ∙ ap (slice_get new) is ∙ after_at old new asked reply by) in
            subst HasBegun (sym it) (later (had by.before (ap (slice_get old) is ∙ by.at)))

        cases : (b : Bool) → nat_eq table asked.table ≡ b → HasBegun seat
        cases true is = own (eq-from table asked.table is)
        cases false is = had seat (sym (ap (λ seats. slice_get seats table) by.others ∙ get_set_other old asked.table table by.after is) ∙ at)

  -- the key was tracked, and given none
  gave_none : (old new : List SeatedState) (now : ℕ) (reply : Reply) (by : AnswersAt seated_meaning old (record { table = table; shard = part; event = events.Track now key }) reply new) → HaveBegun old → came_with seated_meaning part reply ≡ None → WasGivenNone setup.shards start new table key
  gave_none old new now reply by had none =
      let asked : Call = record { table = table; shard = part; event = events.Track now key } in
      let begun : HasBegun by.before = had by.before by.at in
      let told_so : IsTold (book_of by.before.table part) (events.Track now key) reply by.before.known by.after.known = by.answers.recorded in
      let knew : List Noted = log_of (book_of by.before.table part) by.before.known ++ told_so.between in
      let number : ℕ = number_of (book_of by.before.table part) by.before.known in
      let one : Noted = call (number_at begun.was part) (events.Track now key) reply in
      let history : IsHistory (knew ++ call number (events.Track now key) reply ∷ []) = subst IsHistory told_so.log told_so.history in
      record {
        was = begun.was;
        was_at = begun.was_at;
        seat = by.after;
        at = after_at old new asked reply by;
        now = now;
        reply = reply;
        before = begun.more.0 ++ told_so.between;
        after = [];
        known =
            knows_after old new asked reply by part ∙ told_so.log
            ∙ (λ k. (sym begun.more.1 k ++ told_so.between) ++ call (begun.number k) (events.Track now key) reply ∷ [])
            ∙ ap (λ l. l ++ one ∷ []) (append_assoc (known_of begun.was part) begun.more.0 told_so.between);
        none = last_gave_none knew number now part key reply history none;
      }

-- ---- as it is judged

module _ (setup : Setup) (samples : Samples) (name : List ℕ) (table limit : ℕ) (first : LimitsFirst setup name table limit) (key : Key) (source : source_key setup samples keys.Source table ≡ Some key) (start : List SeatedState) where
  -- as long as it holds nothing by sc0, either it was answered nothing, or its key was given none since the start
  record IsAccounted (seats : List SeatedState) (connection : Connection RefState) : Type 0 where
    stands : IsJudged setup samples connection
    begun : HaveBegun setup table key start seats
    unheld : connection.progress.held.sc0 ≡ None → (connection.answers ≡ []) ⊎ WasGivenNone setup.shards start seats table key

  -- what it asks first is the track of its key
  asks_first : (connection : Connection RefState) → IsJudged setup samples connection → connection.answers ≡ [] → asks connection ≡ wants.Track Sc0 table key
  asks_first connection stands none =
      ap (λ s. next s connection.samples connection.answers) stands.ours ∙ (λ k. next setup (stands.known k) (none k)) ∙ first_lem setup name table limit samples key first source

  module _ (now : ℕ) (old new : List SeatedState) (connection : Connection RefState) (asked : Call) (reply : Reply) (accounted : IsAccounted old connection) (judged : is_judged connection.progress.phase ≡ true)
      (wants_it : IsAskedFor seated_meaning connection.setup.shards now connection.progress.held (need connection) asked) (by : AnswersAt seated_meaning old asked reply new) where
    first_asked : connection.answers ≡ [] → asked ≡ record { table = table; shard = shard key setup.shards; event = events.Track now key }
    first_asked none =
        let wanted : need connection ≡ needs.Track Sc0 table key = wants_judging connection accounted.stands.given judged ∙ ap (λ w. judging w connection.progress) (asks_first connection accounted.stands none) in
        subst (λ n. IsAskedFor seated_meaning connection.setup.shards now connection.progress.held n asked) wanted wants_it
        ∙ ap (λ (s : Setup). record { table = table; shard = shard key s.shards; event = events.Track now key }) accounted.stands.ours

    answered_none : connection.answers ≡ [] → (heard_by (asks connection) connection.progress (came_with seated_meaning asked.shard reply)).held.sc0 ≡ None → WasGivenNone setup.shards start new table key
    answered_none none unheld =
        let named = first_asked none in
        let came : came_with seated_meaning asked.shard reply ≡ None = came_held (asks connection) table key connection.progress (came_with seated_meaning asked.shard reply) (asks_first connection accounted.stands none) unheld in
        gave_none setup table key start old new now reply (subst (λ c. AnswersAt seated_meaning old c reply new) named by) accounted.begun (ap (λ (c : Call). came_with seated_meaning c.shard reply) (sym named) ∙ came)

    hears_so : (after : Connection RefState) → HasTaken connection after (answer_of reply) (came_with seated_meaning asked.shard reply) → IsAccounted new after
    hears_so after took_it = record {
      stands = taken_judged setup samples connection after (answer_of reply) (came_with seated_meaning asked.shard reply) accounted.stands judged took_it;
      begun = begun_told setup table key start old new asked reply by accounted.begun;
      unheld = λ none. ⊎_elim (same none) (come none) (sc0_after (asks connection) connection.progress (came_with seated_meaning asked.shard reply));
    }
      where
        heard_sc0 : Option (ℕ × RefState)
        heard_sc0 = (heard_by (asks connection) connection.progress (came_with seated_meaning asked.shard reply)).held.sc0

        progress_is : after.progress.held.sc0 ≡ (heard_by (asks connection) connection.progress (came_with seated_meaning asked.shard reply)).held.sc0
        progress_is = ap (λ (p : Progress RefState). p.held.sc0) took_it.progress

        same : after.progress.held.sc0 ≡ None → (heard_by (asks connection) connection.progress (came_with seated_meaning asked.shard reply)).held.sc0 ≡ connection.progress.held.sc0 → (after.answers ≡ []) ⊎ WasGivenNone setup.shards start new table key
        same none kept =
            ⊎_elim (λ empty. inr (answered_none empty (sym progress_is ∙ none))) (λ given. inr (given_later setup.shards start old new table key asked reply by given))
            (accounted.unheld (sym kept ∙ sym progress_is ∙ none))

        come : after.progress.held.sc0 ≡ None → HasCome (asks connection) (came_with seated_meaning asked.shard reply) (heard_by (asks connection) connection.progress (came_with seated_meaning asked.shard reply)).held.sc0 → (after.answers ≡ []) ⊎ WasGivenNone setup.shards start new table key
        come none it = absurd (some_none (it.table, it.reference) (sym it.held ∙ sym progress_is ∙ none))

    hears : IsAccounted new (heard seated_meaning connection asked.shard reply)
    hears =
        subst (IsAccounted new) (sym (heard_took connection asked.shard reply accounted.stands.given judged))
        (hears_so (took connection (answer_of reply) (came_with seated_meaning asked.shard reply)) (taken connection (answer_of reply) (came_with seated_meaning asked.shard reply) accounted.stands.given judged))

  -- no seat is told anything
  stays : (seats : List SeatedState) (connection after : Connection RefState) → IsAccounted seats connection → IsJudged setup samples after → HoldsSame connection after → IsAccounted seats after
  stays seats connection after accounted stands same = record {
    stands = stands;
    begun = accounted.begun;
    unheld = λ none. ⊎_elim (λ empty. inl (same.answers ∙ empty)) (λ given. inr given) (accounted.unheld (sym same.sc0 ∙ none));
  }

  moves_on : (now : ℕ) (old new : List SeatedState) (connection after : Connection RefState) (moved : Moved) → (moved ≡ moved_so.Kept → ⊥) → is_judged connection.progress.phase ≡ true → IsAccounted old connection → Moves seated_meaning now old connection new after moved → IsAccounted new after
  moves_on now old new connection after moved_so.Answered kept judged accounted moves = subst (IsAccounted new) (sym moves.4) (hears now old new connection moves.0 moves.1 accounted judged moves.2 moves.3)
  moves_on now old new connection after moved_so.Turned kept judged accounted moves =
      let then = turned_judged setup samples connection accounted.stands in
      subst (λ seats. IsAccounted seats after) (sym moves.1) (subst (IsAccounted old) (sym moves.2) (stays old connection _ accounted then.0 then.1))
  moves_on now old new connection after moved_so.Refused kept judged accounted moves =
      let then = refused_judged setup samples connection accounted.stands judged in
      subst (λ seats. IsAccounted seats after) (sym moves.2) (subst (IsAccounted old) (sym moves.3) (stays old connection _ accounted then.0 then.1))
  moves_on now old new connection after moved_so.Kept kept judged accounted moves = absurd (kept refl)

  goes_on : {C : Type 0} (shows : C → ℕ → C → Type 0) (count : ℕ) (old new : Visit SeatedState RefState C) → GoesJudged seated_meaning shows count old new → IsAccounted old.ports old.connection → IsAccounted new.ports new.connection
  goes_on {C = C} shows zero old new goes accounted = subst (λ (visit : Visit SeatedState RefState C). IsAccounted visit.ports visit.connection) (sym goes) accounted
  goes_on shows (suc count) old new goes accounted =
      let next_one = goes.1 in
      let moved_once = goes.4 in
      goes_on shows count next_one new goes.5 (moves_on moved_once.0 old.ports next_one.ports old.connection next_one.connection goes.2 goes.3 goes.0 accounted moved_once.3)

  -- an admitted one was answered something
  none_empty : (connection : Connection RefState) → IsJudged setup samples connection → connection.progress.phase ≡ Admitted → connection.answers ≡ [] → ⊥
  none_empty connection stands admitted none =
      let accepted : next setup connection.samples connection.answers ≡ wants.Done Accept = ap (λ s. next s connection.samples connection.answers) (sym stands.ours) ∙ stands.accepted admitted in
      let tracks : next setup connection.samples connection.answers ≡ wants.Track Sc0 table key = (λ k. next setup (stands.known k) (none k)) ∙ first_lem setup name table limit samples key first source in
      false≢true (ap wants_sc0 (sym accepted ∙ tracks))

-- one that has just come, and was judged
pub judged_untracked : {C : Type 0} (shows : C → ℕ → C → Type 0) (setup : Setup) (samples : Samples) (old new : List SeatedState) (conn later : Conn RefState) (clock shown : C) → Stands conn (arrived setup samples) → HasGoneJudged seated_meaning shows old conn clock new later shown
    → is_judged (progress_of later).phase ≡ false → needed later ≡ needs.Rest → IsUntrackedSince old new setup samples later
judged_untracked shows setup samples old new conn later clock shown stands gone judged rests name table limit key first source unheld =
    let visit = gone (arrived setup samples) stands in
    let after : Connection RefState = visit.0 in
    let progress : progress_of later ≡ after.progress = visit.1.progress in
    let begins : IsAccounted setup samples name table limit first key source old old (arrived setup samples) = record {
      stands = record { ours = refl; known = refl; given = refl; accepted = λ at. cc };
      begun = λ seat at. record { was = seat; was_at = at; more = begins_itself (known_of seat (shard key setup.shards)); number = refl };
      unheld = λ none. inl refl;
    } in
    let accounted : IsAccounted setup samples name table limit first key source old new after =
    goes_on setup samples name table limit first key source old shows visit.2.0 (record { ports = old; connection = arrived setup samples; clock = clock }) (record { ports = new; connection = after; clock = shown }) visit.2.1 begins in
    let admitted : after.progress.phase ≡ Admitted = rests_admitted after accounted.stands.given (sym (ap (λ (p : Progress RefState). is_judged p.phase) progress) ∙ judged) (sym (need_same later after visit.1) ∙ rests) in
    ⊎_elim (λ empty. absurd (none_empty setup samples name table limit first key source old after accounted.stands admitted empty)) (λ given. given)
    (accounted.unheld (sym (ap (λ (p : Progress RefState). p.held.sc0) progress) ∙ unheld))

-- ---- by what the seats know

-- what was given none since has been given none
pub given_none : (shards : ℕ) (old new : List SeatedState) (table : ℕ) (key : Key) → WasGivenNone shards old new table key → HasGivenNone shards new table key
given_none shards old new table key given =
    let first : List Noted = known_of given.was (shard key shards) ++ given.before in
    let one : Noted = call (number_at given.was (shard key shards)) (events.Track given.now key) given.reply in
    let is : is_none_for key one ≡ true = (λ k. same_key-refl key k && given.none k) in
    let whole : IsPrefix (first ++ one ∷ []) (known_of given.seat (shard key shards)) = (given.after, append_assoc first (one ∷ []) given.after ∙ sym given.known) in
    record { seat = given.seat; at = given.at; none = any_later (is_none_for key) (first ++ one ∷ []) (known_of given.seat (shard key shards)) whole (any_last (is_none_for key) first one is) }

pub untracked_for : (setup : Setup) (samples : Samples) (old new : List SeatedState) (conn : Conn RefState) → IsUntrackedSince old new setup samples conn → IsUntrackedFor setup samples new conn
untracked_for setup samples old new conn since name table limit key first source unheld = given_none setup.shards old new table key (since name table limit key first source unheld)

-- as a seat is told of a call, that stays so
pub untracked_told : (setup : Setup) (samples : Samples) (conn : Conn RefState) (old new : List SeatedState) (asked : Call) (reply : Reply) → AnswersAt seated_meaning old asked reply new → IsUntrackedFor setup samples old conn → IsUntrackedFor setup samples new conn
untracked_told setup samples conn old new asked reply by had name table limit key first source unheld =
    let was = had name table limit key first source unheld in
    let grown = seats_grow old new asked reply by table (shard key setup.shards) was.seat was.at in
    record { seat = grown.later; at = grown.at; none = any_later (is_none_for key) (known_of was.seat (shard key setup.shards)) (known_of grown.later (shard key setup.shards)) grown.more was.none }
