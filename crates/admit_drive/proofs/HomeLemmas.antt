-- The references that are out of a shard are of keys that lie on it, and a move keeps it so.
use Rattle.std.proofs.Common.{◌≡◌, ℕ, zero, suc, refl, sym, ap, subst, ◌∙◌, rules, Bool, true, false, not, nat_eq, ◌&&◌, List, [], ◌∷◌, ◌++◌, filter, map, slice_get, Option, Some, None, option_map}
use Rattle.std.specs.List.{range_with_len}
use Rattle.std.proofs.lemmas.List.Elements.{All-filter, All-push}
use Rattle.stick_key.specs.Shard.{shard}
use Rattle.stick_model.specs.Key.{Key}
use Rattle.stick_model.specs.Laws.{tickets_told}
use Rattle.stick_model.specs.State.{State, same_ticket}
use Rattle.stick_model.specs.Step.{Step}
use Rattle.stick_model.specs.declared.events.Event.{Event}
use Rattle.stick_model.specs.declared.events.Event.TheVariants as events
use Rattle.stick_model.specs.declared.replies.Reply.{Reply}
use Rattle.stick_model.specs.declared.replies.Reply.TheVariants as replies
use Rattle.stick_model.specs.declared.rows.Row.{Row}
use Rattle.stick_model.specs.declared.rows.Ticket.{Ticket}
use Rattle.stick_model.specs.declared.specification.Spec.{Spec}
use Rattle.stick_model.proofs.StepCases.{IsQuiet, Happens, idles, tracks, counts, releases, writes, removes, clears, happened}
use Rattle.stick_model.proofs.StepLemmas.{step_tickets}
use Rattle.stick_model.proofs.TestLemmas.{eq-from}
use Rattle.rule_model.specs.declared.sections.NamedSpec.{NamedSpec}
use Rattle.shard_book.specs.BookState.{BookState, opened}
use Rattle.shard_book.specs.Keeping.{part_of}
use Rattle.admit_core.specs.Connection.{Connection, need}
use Rattle.admit_core.specs.Held.{held_at}
use Rattle.admit_core.specs.declared.held.Held.{Held}
use Rattle.admit_core.specs.declared.need.Need.{Need}
use Rattle.admit_core.specs.declared.need.Need.TheVariants as needs
use Rattle.admit_drive.specs.Calls.{AnswersAt, call_by, call_of}
use Rattle.admit_drive.specs.Moves.{Makes, MovesBy}
use Rattle.admit_drive.specs.Tables.{TableState, empty_table_of, shard_at}
use Rattle.admit_port.specs.Calls.{Call}
use Rattle.shard_port.specs.declared.reference.Reference.{Reference}
use Rattle.admit_drive.specs.Laws.{AreHome, HomeLaw, IsHome}
use Rattle.admit_drive.proofs.SumLemmas.{some_same}
use Rattle.admit_drive.proofs.ShardLemmas.{after_of, before_of, replaces, step_of}

-- ---- a shard answers

-- a key is tracked on its shard
abbrev TracksHome : ℕ → Call → Type 0
TracksHome shards call = (now : ℕ) (key : Key) → call.event ≡ events.Track now key → shard key shards ≡ call.shard

-- what becomes of the tickets: one more, without one, or as they are
told_by : (P : List (Ticket × Key) → Type 0) (event : Event) (reply : Reply) (tickets : List (Ticket × Key)) → ((given : Ticket) (row : Row) → reply ≡ replies.Tracked given row → P (tickets ++ (given, row.key) ∷ [])) → ((p : Ticket × Key → Bool) → P (filter p tickets)) → P tickets
    → P (tickets_told event reply tickets)
told_by P event (replies.Tracked given row) tickets more fewer same = more given row refl
told_by P (events.Release now given) replies.Released tickets more fewer same = fewer (λ (held : Ticket × Key). not (same_ticket given held.0))
told_by P event reply tickets more fewer same = same

-- only a track is answered with a reference
abbrev IsTrackedBy : Event → Reply → Type 0
IsTrackedBy event (replies.Tracked given row) = (now : ℕ) × (key : Key) × (event ≡ events.Track now key) × (row.key ≡ key)
IsTrackedBy event reply = Unit {0}

quiet_by : (event : Event) (reply : Reply) → IsQuiet reply → IsTrackedBy event reply
quiet_by event (replies.Tracked given row) quiet = absurd quiet
quiet_by event replies.Released quiet = absurd quiet
quiet_by event _ quiet = tt

event_of : (old : State) (event : Event) (reply : Reply) (new : State) → Step old event reply new → IsTrackedBy event reply
event_of old event reply new step = by (happened old event reply new step)
  where
    by : {slot : ℕ} {event : Event} {reply : Reply} {new : State} → Happens old slot event reply new → IsTrackedBy event reply
    by (idles event reply quiet idle) = quiet_by event reply quiet
    by (tracks now key records room) = (now, key, refl, refl)
    by (counts now ticket act key out) = tt
    by (releases now ticket key out) = tt
    by (writes now key pairs created records room) = tt
    by (removes now key free) = tt
    by (clears now choice) = tt

answered_home : (shards : ℕ) (old new : List TableState) (call : Call) (reply : Reply) → AreHome shards old → TracksHome shards call → AnswersAt old call reply new → AreHome shards new
answered_home shards old new call reply are home answers_it table part live at = by (nat_eq table call.table) (nat_eq part call.shard) refl refl
  where
    before : State
    before = before_of answers_it

    after : State
    after = after_of answers_it

    was : IsHome shards call.shard before.tickets
    was = are call.table call.shard before (replaces old new call reply answers_it).was

    tracked : (given : Ticket) (row : Row) → reply ≡ replies.Tracked given row → IsHome shards call.shard (before.tickets ++ (given, row.key) ∷ [])
    tracked given row is =
        let event = event_of before call.event (replies.Tracked given row) after (subst (λ r. Step before call.event r after) is (step_of answers_it)) in
        All-push (λ (held : Ticket × Key). shard held.1 shards ≡ call.shard) before.tickets (given, row.key) was (ap (λ k. shard k shards) event.3 ∙ home event.0 event.1 event.2)

    will : IsHome shards call.shard after.tickets
    will =
        subst (IsHome shards call.shard) (sym (step_tickets before call.event reply after (step_of answers_it)))
        (told_by (IsHome shards call.shard) call.event reply before.tickets tracked (λ p. All-filter p (λ (held : Ticket × Key). shard held.1 shards ≡ call.shard) before.tickets was) was)

    by : (a b : Bool) → nat_eq table call.table ≡ a → nat_eq part call.shard ≡ b → IsHome shards part live.tickets
    by true true t s =
        let in_table : table ≡ call.table = eq-from table call.table t in
        let in_shard : part ≡ call.shard = eq-from part call.shard s in
        let same : after ≡ live = some_same after live (sym (replaces old new call reply answers_it).is ∙ (λ k. shard_at new (sym in_table k) (sym in_shard k)) ∙ at) in
        subst (λ p. IsHome shards p live.tickets) (sym in_shard) (subst (λ (s : State). IsHome shards call.shard s.tickets) same will)
    by true false t s = are table part live (sym ((replaces old new call reply answers_it).others table part (λ k. t k && s k)) ∙ at)
    by false b t s = are table part live (sym ((replaces old new call reply answers_it).others table part (λ k. t k && s k)) ∙ at)

-- ---- what a connection asks

by_reference : (shards : ℕ) (ask : Ticket → Event) (held : Option (ℕ × Reference)) (call : Call) → ((ticket : Ticket) (now : ℕ) (key : Key) → ask ticket ≡ events.Track now key → ⊥) → call_by ask held ≡ Some call → TracksHome shards call
by_reference shards ask None call never is now key of_it = cc
by_reference shards ask (Some entry) call never is now key of_it =
    let made : Call = record { table = entry.0; shard = entry.1.shard; event = ask entry.1.ticket } in
    let same : made ≡ call = some_same made call is in
    absurd (never entry.1.ticket now key (ap (λ (c : Call). c.event) same ∙ of_it))

same_key_tracked : (now later : ℕ) (a b : Key) → events.Track now a ≡ events.Track later b → a ≡ b
same_key_tracked now later a b e = cc

pub asks_home : (shards now : ℕ) (held : Held Reference) (wanted : Need) (call : Call) → call_of shards now held wanted ≡ Some call → TracksHome shards call
asks_home shards now held (needs.Track slot table key) call is later other of_it =
    let made : Call = record { table = table; shard = shard key shards; event = events.Track now key } in
    let same : made ≡ call = some_same made call is in
    ap (λ k. shard k shards) (sym (same_key_tracked now later key other (ap (λ (c : Call). c.event) same ∙ of_it))) ∙ ap (λ (c : Call). c.shard) same
asks_home shards now held (needs.Get table key) call is later other of_it =
    let made : Call = record { table = table; shard = shard key shards; event = events.Get now key } in
    let same : made ≡ call = some_same made call is in
    let never : events.Get now key ≡ events.Track later other = ap (λ (c : Call). c.event) same ∙ of_it in
    cc
asks_home shards now held (needs.Look slot) call is later other of_it = by_reference shards (λ ticket. events.Look now ticket) (held_at held slot) call (λ ticket n k e. cc) is later other of_it
asks_home shards now held (needs.Count slot act) call is later other of_it = by_reference shards (λ ticket. events.Count now ticket act) (held_at held slot) call (λ ticket n k e. cc) is later other of_it
asks_home shards now held (needs.Release slot) call is later other of_it = by_reference shards (λ ticket. events.Release now ticket) (held_at held slot) call (λ ticket n k e. cc) is later other of_it
asks_home shards now held needs.Rest call is later other of_it = cc
asks_home shards now held needs.Turn call is later other of_it = cc
asks_home shards now held needs.Finished call is later other of_it = cc

-- ---- it goes on

module _ (shards : ℕ) (old new : List TableState) (connection after : Connection Reference) (are : AreHome shards old) (ours : connection.setup.shards ≡ shards) where
  stays : new ≡ old → AreHome shards new
  stays same = subst (AreHome shards) (sym same) are

  made_home : (now : ℕ) (wanted : Need) (call : Option Call) (was_refused : Bool) → call_of connection.setup.shards now connection.progress.held wanted ≡ call → Makes old connection call new after was_refused → AreHome shards new
  made_home now wanted call true is makes = stays makes.1
  made_home now wanted None false is makes = absurd makes
  made_home now wanted (Some call) false is makes =
      answered_home shards old new call makes.0 are (asks_home shards now connection.progress.held wanted call (ap (λ n. call_of n now connection.progress.held wanted) (sym ours) ∙ is)) makes.1

  pub moved_home : (now : ℕ) (wanted : Need) (was_refused : Bool) → MovesBy now old connection wanted new after was_refused → AreHome shards new
  moved_home now needs.Rest was_refused moves = stays moves.0
  moved_home now needs.Finished was_refused moves = stays moves.0
  moved_home now needs.Turn was_refused moves = stays moves.0
  moved_home now (needs.Get table key) was_refused moves = made_home now (needs.Get table key) _ was_refused refl moves
  moved_home now (needs.Track slot table key) was_refused moves = made_home now (needs.Track slot table key) _ was_refused refl moves
  moved_home now (needs.Look slot) was_refused moves = made_home now (needs.Look slot) _ was_refused refl moves
  moved_home now (needs.Count slot act) was_refused moves = made_home now (needs.Count slot act) _ was_refused refl moves
  moved_home now (needs.Release slot) was_refused moves = made_home now (needs.Release slot) _ was_refused refl moves

pub home_law : HomeLaw
home_law now old new connection after was_refused are moves = moved_home connection.setup.shards old new connection after are refl now (need connection) was_refused moves

-- ---- the start

none_opened : (spec : ℕ → Spec) (numbers : List ℕ) (s : ℕ) (live : State) → option_map (λ (book : BookState). book.live) (slice_get (map (λ i. opened (spec i)) numbers) s) ≡ Some live → [] ≡ live.tickets
none_opened spec [] s live at = cc
none_opened spec (i ∷ more) zero live at = ap (λ (state : State). state.tickets) (some_same (opened (spec i)).live live at)
none_opened spec (i ∷ more) (suc s) live at = none_opened spec more s live at

pub none_out : (shards : ℕ) (tables : List NamedSpec) (t part : ℕ) (live : State) → shard_at (map (empty_table_of shards) tables) t part ≡ Some live → [] ≡ live.tickets
none_out shards [] t part live at = cc
none_out shards (named ∷ more) zero part live at = none_opened (λ i. part_of named.spec shards i) (range_with_len 0 shards) part live at
none_out shards (named ∷ more) (suc t) part live at = none_out shards more t part live at

pub no_home : (shards part : ℕ) → IsHome shards part []
no_home shards part = search rules
