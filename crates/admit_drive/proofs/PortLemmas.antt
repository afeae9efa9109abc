-- A move by the ports of the books is a move by the books.
use Rattle.std.proofs.Common.{◌≡◌, ◌≢◌, ◌⊎◌, ℕ, ◌<◌, refl, sym, ap, subst, ◌∙◌, arith, Bool, true, false, List, length, is_some, slice_get, slice_set, Option, Some, None, inl, inr}
use Rattle.std.specs.Option.{option_and_then}
use Rattle.std.proofs.lemmas.Bool.{false≢true}
use Rattle.std.proofs.lemmas.Option.{slice_get-map, slice_get_within}
use Rattle.rule_model.specs.declared.sections.Setup.{Setup}
use Rattle.stick_model.specs.State.{State}
use Rattle.stick_model.specs.Step.{is_out}
use Rattle.stick_model.specs.declared.events.Event.{Event}
use Rattle.stick_model.specs.declared.events.Event.TheVariants as events
use Rattle.stick_model.specs.declared.replies.Refusal.{Refusal}
use Rattle.stick_model.specs.declared.replies.Refusal.TheVariants as refusals
use Rattle.stick_model.specs.declared.replies.Reply.{Reply}
use Rattle.stick_model.specs.declared.replies.Reply.TheVariants as replies
use Rattle.stick_model.specs.declared.rows.Ticket.{Ticket}
use Rattle.shard_book.specs.BookState.{BookState}
use Rattle.shard_book.specs.BooksState.{IsRefusedAt, live_states}
use Rattle.shard_port.specs.Books.{BooksAnswer, BooksRefuse, books_meaning}
use Rattle.shard_port.specs.declared.reference.Reference.{Reference}
use Rattle.admit_core.specs.Conn.{judged_by, needed, progress_of}
use Rattle.admit_core.specs.Connection.{Connection, Progress, is_event, is_release, need, need_takes_memory, refused}
use Rattle.admit_core.specs.Held.{held_at}
use Rattle.admit_core.specs.Left.{is_still}
use Rattle.admit_core.specs.Naming.{names_table_of}
use Rattle.admit_core.specs.declared.conn.Conn.{Conn}
use Rattle.admit_core.specs.declared.held.Held.{Held}
use Rattle.admit_core.specs.declared.need.Need.{Need}
use Rattle.admit_core.specs.declared.need.Need.TheVariants as needs
use Rattle.admit_core.proofs.NeedLemmas.{conn_table}
use Rattle.admit_port.proofs.CommonLemmas.{need_same, setup_same}
use Rattle.admit_port.specs.Calls.{AnswersAt as PortAnswersAt, Call, IsAskedBy, IsAskedFor, RefusedAt, heard as heard_by}
use Rattle.admit_port.specs.DriveCode.{CanGoOn, HasMoved as HasMovedBy, IsReleaseRefused}
use Rattle.admit_port.specs.Moves.{IsRefused as IsRefusedByPort, Moves as MovesByPort}
use Rattle.admit_port.specs.declared.moved.Moved.{Moved}
use Rattle.admit_port.specs.declared.moved.Moved.TheVariants as outcomes
use Rattle.admit_drive.specs.Balance.{IsCovered}
use Rattle.admit_drive.specs.Calls.{AnswersAt, RefusesAt, call_by, call_of, heard}
use Rattle.admit_drive.specs.DriveCode.{HasMoved}
use Rattle.admit_drive.specs.Moves.{Makes, Moves, MovesBy}
use Rattle.admit_drive.specs.Tables.{AreTablesOf, TableState, shard_at, shard_of}
use Rattle.admit_drive.proofs.CallLemmas.{CanAsk, can_ask, found_at, held_out, out_here}

-- ---- calls

asked_by : (event : Ticket → Event) (held : Option (ℕ × Reference)) (call : Call) → IsAskedBy books_meaning event held call → call_by event held ≡ Some call
asked_by event None call asked = absurd asked
asked_by event (Some entry) call asked = ap (λ (c : Call). Some c) (sym asked)

-- what a need asks of a port is what it asks of the books
asked_for : (shards now : ℕ) (held : Held Reference) (wanted : Need) (call : Call) → IsAskedFor books_meaning shards now held wanted call → (is_event wanted ≡ true) × (call_of shards now held wanted ≡ Some call)
asked_for shards now held (needs.Get table key) call asked = (refl, ap (λ (c : Call). Some c) (sym asked))
asked_for shards now held (needs.Track slot table key) call asked = (refl, ap (λ (c : Call). Some c) (sym asked))
asked_for shards now held (needs.Look slot) call asked = (refl, asked_by (λ ticket. events.Look now ticket) (held_at held slot) call asked)
asked_for shards now held (needs.Count slot act) call asked = (refl, asked_by (λ ticket. events.Count now ticket act) (held_at held slot) call asked)
asked_for shards now held (needs.Release slot) call asked = (refl, asked_by (λ ticket. events.Release now ticket) (held_at held slot) call asked)
asked_for shards now held needs.Rest call asked = absurd asked
asked_for shards now held needs.Turn call asked = absurd asked
asked_for shards now held needs.Finished call asked = absurd asked

released_by : (now : ℕ) (held : Option (ℕ × Reference)) (call : Call) → IsAskedBy books_meaning (λ ticket. events.Release now ticket) held call → (ticket : Ticket) × (call.event ≡ events.Release now ticket)
released_by now None call asked = absurd asked
released_by now (Some entry) call asked = (entry.1.ticket, ap (λ (c : Call). c.event) asked)

-- the event of a release
release_event : (shards now : ℕ) (held : Held Reference) (wanted : Need) (call : Call) → is_release wanted ≡ true → IsAskedFor books_meaning shards now held wanted call → (ticket : Ticket) × (call.event ≡ events.Release now ticket)
release_event shards now held (needs.Release slot) call release asked = released_by now (held_at held slot) call asked
release_event shards now held (needs.Get table key) call release asked = absurd (false≢true release)
release_event shards now held (needs.Track slot table key) call release asked = absurd (false≢true release)
release_event shards now held (needs.Look slot) call release asked = absurd (false≢true release)
release_event shards now held (needs.Count slot act) call release asked = absurd (false≢true release)
release_event shards now held needs.Rest call release asked = absurd asked
release_event shards now held needs.Turn call release asked = absurd asked
release_event shards now held needs.Finished call release asked = absurd asked

-- ---- answers

heard_same : (connection : Connection Reference) (at : ℕ) (reply : Reply) → heard_by books_meaning connection at reply ≡ heard connection at reply
heard_same connection at replies.Released = refl
heard_same connection at (replies.Tracked ticket row) = refl
heard_same connection at replies.Absent = refl
heard_same connection at (replies.Row row) = refl
heard_same connection at (replies.Value value) = refl
heard_same connection at _ = refl

answered_at : (old new : List TableState) (call : Call) (reply : Reply) → PortAnswersAt books_meaning old call reply new → AnswersAt old call reply new
answered_at old new call reply answers =
    let one : BooksAnswer answers.before call.shard call.event reply answers.after = answers.answers in
    record { taken = one.taken; before = answers.before; after = one.after; at = answers.at; lives = one.lives; extends = one.extends; others = answers.others ∙ ap (λ (t : TableState). slice_set old call.table t) one.others }

-- ---- refusals

same_table : (o : Option TableState) (a b : TableState) → o ≡ Some a → o ≡ Some b → a ≡ b
same_table o a b one other = cc

same_state : (a b : State) → Some a ≡ Some b → a ≡ b
same_state a b e = cc

-- no release is refused for want of memory, or as the life is over
never : (now : ℕ) (states : List State) (shard : ℕ) (ticket : Ticket) (refusal : Refusal) → (refusal ≡ refusals.Memory) ⊎ (refusal ≡ refusals.Exhausted) → IsRefusedAt states shard (events.Release now ticket) refusal → ⊥
never now states shard ticket refusal (inl memory) so =
    let it : IsRefusedAt states shard (events.Release now ticket) refusals.Memory = subst (λ r. IsRefusedAt states shard (events.Release now ticket) r) memory so in
    false≢true it.2
never now states shard ticket refusal (inr spent) so =
    let it : IsRefusedAt states shard (events.Release now ticket) refusals.Exhausted = subst (λ r. IsRefusedAt states shard (events.Release now ticket) r) spent so in
    false≢true (sym it.2.1)

-- what is held is out, so that nothing is stale
module _ (now : ℕ) (tables : List TableState) (setup : Setup) (held : Held Reference) (wanted : Need) (call : Call) (are : AreTablesOf setup tables) (covered : IsCovered tables held) (named : names_table_of setup wanted ≡ true)
    (asked : IsAskedFor books_meaning setup.shards now held wanted call) (so : RefusedAt books_meaning tables call) where
  can : CanAsk tables call
  can = can_ask setup tables now held wanted call are covered named (asked_for setup.shards now held wanted call asked).1

  by_book : (refusal : Refusal) → IsRefusedAt (live_states so.port.state) call.shard call.event refusal → RefusesAt tables call
  by_book refusals.Memory it = record { before = so.port; refusal = refusals.Memory; at = so.at; refused = it; why = inl refl }
  by_book refusals.Exhausted it = record { before = so.port; refusal = refusals.Exhausted; at = so.at; refused = it; why = inr refl }
  by_book (refusals.Behind count front) it = absurd it.2
  by_book refusals.Stale it =
      let found : shard_at tables call.table call.shard ≡ Some it.0 = ap (λ o. option_and_then (λ (t : TableState). shard_of t.state.books call.shard) o) so.at ∙ sym (slice_get-map (λ (b : BookState). b.live) so.port.state.books call.shard) ∙ it.1 in
      let same_live : can.1.live ≡ it.0 = same_state can.1.live it.0 (sym can.1.at ∙ found) in
      absurd (false≢true (sym it.2 ∙ subst (λ s. is_out s call.event ≡ true) same_live can.1.out))

  by : (refusal : Refusal) → BooksRefuse so.port call.shard call.event refusal → RefusesAt tables call
  by refusal (inl none) =
      let same : can.0.found ≡ so.port = same_table (slice_get tables call.table) can.0.found so.port can.0.at so.at in
      let within : call.shard < length so.port.state.books = subst (λ (t : TableState). call.shard < length t.state.books) same can.0.within in
      absurd (omega (arith, within, none.0))
  by refusal (inr it) = by_book refusal it

  refuses : RefusesAt tables call
  refuses = by so.refusal so.refused

  no_release : is_release wanted ≡ true → ⊥
  no_release release =
      let event = release_event setup.shards now held wanted call release asked in
      never now (live_states refuses.before.state) call.shard event.0 refuses.refusal refuses.why (subst (λ e. IsRefusedAt (live_states refuses.before.state) call.shard e refuses.refusal) event.1 refuses.refused)

-- ---- moves

abbrev pub was_refused : Moved → Bool
was_refused outcomes.Answered = false
was_refused outcomes.Turned = false
was_refused outcomes.Refused = true
was_refused outcomes.Kept = true

-- ---- moves

moves_event : (now : ℕ) (old : List TableState) (connection : Connection Reference) (wanted : Need) (new : List TableState) (after : Connection Reference) (was_refused : Bool) → is_event wanted ≡ true → need connection ≡ wanted
    → Makes old connection (call_of connection.setup.shards now connection.progress.held wanted) new after was_refused → Moves now old connection new after was_refused
moves_event now old connection (needs.Get table key) new after was_refused event is makes = subst (λ w. MovesBy now old connection w new after was_refused) (sym is) makes
moves_event now old connection (needs.Track slot table key) new after was_refused event is makes = subst (λ w. MovesBy now old connection w new after was_refused) (sym is) makes
moves_event now old connection (needs.Look slot) new after was_refused event is makes = subst (λ w. MovesBy now old connection w new after was_refused) (sym is) makes
moves_event now old connection (needs.Count slot act) new after was_refused event is makes = subst (λ w. MovesBy now old connection w new after was_refused) (sym is) makes
moves_event now old connection (needs.Release slot) new after was_refused event is makes = subst (λ w. MovesBy now old connection w new after was_refused) (sym is) makes
moves_event now old connection needs.Rest new after was_refused event is makes = absurd (false≢true event)
moves_event now old connection needs.Turn new after was_refused event is makes = absurd (false≢true event)
moves_event now old connection needs.Finished new after was_refused event is makes = absurd (false≢true event)

-- where there is no memory for a key
memory_moves : (now : ℕ) (tables : List TableState) (connection : Connection Reference) (wants : Need) → need connection ≡ wants → need_takes_memory connection.setup wants ≡ true → Moves now tables connection tables (refused connection None) true
memory_moves now tables connection (needs.Get t k) is takes = subst (λ w. MovesBy now tables connection w tables (refused connection None) true) (sym is) (inr (ap (need_takes_memory connection.setup) is ∙ takes), refl, refl)
memory_moves now tables connection (needs.Track s t k) is takes = subst (λ w. MovesBy now tables connection w tables (refused connection None) true) (sym is) (inr (ap (need_takes_memory connection.setup) is ∙ takes), refl, refl)
memory_moves now tables connection (needs.Look s) is takes = absurd (false≢true takes)
memory_moves now tables connection (needs.Count s a) is takes = absurd (false≢true takes)
memory_moves now tables connection (needs.Release s) is takes = absurd (false≢true takes)
memory_moves now tables connection needs.Rest is takes = absurd (false≢true takes)
memory_moves now tables connection needs.Turn is takes = absurd (false≢true takes)
memory_moves now tables connection needs.Finished is takes = absurd (false≢true takes)

-- it is refused: by its port, or as there is no memory for the key
refused_as : (now : ℕ) (old new : List TableState) (connection after : Connection Reference) → AreTablesOf connection.setup old → IsCovered old connection.progress.held → names_table_of connection.setup (need connection) ≡ true
    → IsRefusedByPort books_meaning now old connection → new ≡ old → after ≡ refused connection None → Moves now old connection new after true
refused_as now old new connection after are covered named (inl so) stays is =
    let asks = asked_for connection.setup.shards now connection.progress.held (need connection) so.0 so.1 in
    moves_event now old connection (need connection) new after true asks.0 refl
    (subst (λ o. Makes old connection o new after true) (sym asks.1) (inl (refuses now old connection.setup connection.progress.held (need connection) so.0 are covered named so.1 so.2), stays, is))
refused_as now old new connection after are covered named (inr takes) stays is =
    subst (λ (ts : List TableState). Moves now old connection ts after true) (sym stays) (subst (λ (c : Connection Reference). Moves now old connection old c true) (sym is) (memory_moves now old connection (need connection) refl takes))

moves_as : (now : ℕ) (old new : List TableState) (connection after : Connection Reference) (moved : Moved) → (moved ≡ outcomes.Kept → ⊥) → AreTablesOf connection.setup old → IsCovered old connection.progress.held
    → names_table_of connection.setup (need connection) ≡ true → MovesByPort books_meaning now old connection new after moved → Moves now old connection new after (was_refused moved)
moves_as now old new connection after outcomes.Answered goes are covered named moves =
    let call : Call = moves.0 in
    let asks = asked_for connection.setup.shards now connection.progress.held (need connection) call moves.2 in
    moves_event now old connection (need connection) new after false asks.0 refl
    (subst (λ o. Makes old connection o new after false) (sym asks.1) (moves.1, answered_at old new call moves.1 moves.3, moves.4 ∙ heard_same connection call.shard moves.1))
moves_as now old new connection after outcomes.Turned goes are covered named moves = subst (λ w. MovesBy now old connection w new after false) (sym moves.0) (moves.1, moves.2, refl)
moves_as now old new connection after outcomes.Refused goes are covered named moves = refused_as now old new connection after are covered named moves.1 moves.2 moves.3
moves_as now old new connection after outcomes.Kept goes are covered named moves = absurd (goes refl)

moved_as : (now : ℕ) (old new : List TableState) (conn later : Conn Reference) (moved : Moved) → (moved ≡ outcomes.Kept → ⊥) → AreTablesOf (judged_by conn) old → IsCovered old (progress_of conn).held
    → HasMovedBy books_meaning now old conn new later moved → HasMoved now old conn new later (was_refused moved)
moved_as now old new conn later moved goes are covered moves connection stands =
    let one = moves connection stands in
    let setup = setup_same conn connection stands in
    let named : names_table_of connection.setup (need connection) ≡ true = (λ k. names_table_of (sym setup k) (sym (need_same conn connection stands) k)) ∙ conn_table conn in (
      one.0,
      one.1,
      moves_as now old new connection one.0 moved goes (subst (λ (s : Setup). AreTablesOf s old) setup are) (subst (λ (p : Progress Reference). IsCovered old p.held) stands.progress covered) named one.2,
    )

-- ---- the code

on_not_kept : (moved : Moved) → (moved ≡ outcomes.Answered) ⊎ (moved ≡ outcomes.Turned) → moved ≡ outcomes.Kept → ⊥
on_not_kept moved (inl is) kept = cc
on_not_kept moved (inr is) kept = cc

on_told : (moved : Moved) → (moved ≡ outcomes.Answered) ⊎ (moved ≡ outcomes.Turned) → was_refused moved ≡ false
on_told moved (inl is) = ap was_refused is
on_told moved (inr is) = ap was_refused is

without_not_kept : (moved : Moved) → moved ≡ outcomes.Refused → moved ≡ outcomes.Kept → ⊥
without_not_kept moved is kept = cc

module _ (now : ℕ) (old new : List TableState) (conn later : Conn Reference) (moved : Moved) (are : AreTablesOf (judged_by conn) old) (covered : IsCovered old (progress_of conn).held) where
  pub went_on : (moved ≡ outcomes.Answered) ⊎ (moved ≡ outcomes.Turned) → HasMovedBy books_meaning now old conn new later moved → HasMoved now old conn new later false
  went_on is moves = subst (λ b. HasMoved now old conn new later b) (on_told moved is) (moved_as now old new conn later moved (on_not_kept moved is) are covered moves)

  pub went_without : moved ≡ outcomes.Refused → HasMovedBy books_meaning now old conn new later moved → HasMoved now old conn new later true
  went_without is moves = subst (λ b. HasMoved now old conn new later b) (ap was_refused is) (moved_as now old new conn later moved (without_not_kept moved is) are covered moves)

pub goes : (moved : Moved) → (moved ≡ outcomes.Answered) ⊎ (moved ≡ outcomes.Turned) → moved ≢ outcomes.Kept
goes moved is = on_not_kept moved is

pub goes_without : (moved : Moved) → moved ≡ outcomes.Refused → moved ≢ outcomes.Kept
goes_without moved is = without_not_kept moved is

-- its port never refuses a release
pub never_kept : (now : ℕ) (tables : List TableState) (conn : Conn Reference) → AreTablesOf (judged_by conn) tables → IsCovered tables (progress_of conn).held → IsReleaseRefused books_meaning now tables conn → ⊥
never_kept now tables conn are covered kept = no_release now tables (judged_by conn) (progress_of conn).held (needed conn) kept.0 are covered (conn_table conn) kept.2 kept.3 kept.1

-- it can go on by the ports of its tables
pub can_go_on : (tables : List TableState) (conn : Conn Reference) → AreTablesOf (judged_by conn) tables → IsCovered tables (progress_of conn).held → is_some (progress_of conn).given ≡ false → CanGoOn books_meaning tables conn
can_go_on tables conn are covered given = record {
  shared = record { count = are.count; shards = λ i table at. (are.each i table at).2.in_shards };
  held = λ slot entry at.
      let here = out_here tables entry (held_out tables (progress_of conn).held slot entry covered at) in
      let found = found_at tables entry.0 entry.1.shard here.0 here.1 in
      slice_get_within tables entry.0 found.found found.at;
  given = given;
}

-- one that is still stays
still_by : (now : ℕ) (tables : List TableState) (connection : Connection Reference) (wanted : Need) → is_still wanted ≡ true → MovesBy now tables connection wanted tables connection false
still_by now tables connection needs.Rest still = (refl, refl, refl)
still_by now tables connection needs.Finished still = (refl, refl, refl)
still_by now tables connection needs.Turn still = absurd (false≢true still)
still_by now tables connection (needs.Get table key) still = absurd (false≢true still)
still_by now tables connection (needs.Track slot table key) still = absurd (false≢true still)
still_by now tables connection (needs.Look slot) still = absurd (false≢true still)
still_by now tables connection (needs.Count slot act) still = absurd (false≢true still)
still_by now tables connection (needs.Release slot) still = absurd (false≢true still)

pub stayed : (now : ℕ) (tables : List TableState) (conn : Conn Reference) → is_still (needed conn) ≡ true → HasMoved now tables conn tables conn false
stayed now tables conn still connection stands =
    (connection, stands, still_by now tables connection (need connection) (ap is_still (sym (need_same conn connection stands)) ∙ still))
