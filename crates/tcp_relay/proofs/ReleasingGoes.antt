-- A connection that ends gives back what it holds, or holds it still.
use Rattle.admit_core.specs.Left.{is_still}
use Rattle.rule_model.specs.declared.sections.Setup.{Setup}
use Rattle.std.proofs.Common.{Bool, ◌≡◌, ◌⊎◌, inl, inr, ℕ, zero, suc, refl, sym, ap, subst, ◌∙◌, true, false, List, [], Option, Some, None, is_some, slice_get}
use Rattle.std.proofs.lemmas.Bool.{false≢true}
use Rattle.std.proofs.Math.Logic.{∥∥₁_map}
use Rattle.stick_model.specs.declared.events.Event.TheVariants as events
use Rattle.stick_model.specs.declared.replies.Reply.{Reply}
use Rattle.stick_model.specs.declared.replies.Reply.TheVariants as replies
use Rattle.shard_book.specs.SeatState.{RefState}
use Rattle.shard_locks.specs.Ported.{SeatedRefuse, seated_meaning}
use Rattle.shard_locks.specs.ShardsState.{SeatedState}
use Rattle.rule_model.specs.declared.actions.Slot.{Slot}
use Rattle.rule_model.specs.declared.actions.Slot.TheVariants.{Sc0, Sc1, Sc2}
use Rattle.rule_eval.specs.declared.wants.Answer.TheVariants as answers
use Rattle.admit_core.specs.Conn.{Stands, progress_of}
use Rattle.admit_core.specs.Connection.{refused_of, phase_after, need_of, Connection, Progress, asks, counted, gave, gave_of, is_judged, need, need_takes_memory, refused, skipped, took, took_of, turned}
use Rattle.admit_core.specs.Held.{held_at, held_with}
use Rattle.admit_core.specs.declared.conn.Conn.{Conn}
use Rattle.admit_core.specs.declared.held.Held.{Held}
use Rattle.admit_core.specs.declared.need.Need.{Need}
use Rattle.admit_core.specs.declared.need.Need.TheVariants as needs
use Rattle.admit_core.proofs.HistoryLemmas.{ended_law}
use Rattle.admit_core.proofs.SkippedLemmas.{skipped_leaves}
use Rattle.admit_port.proofs.CommonLemmas.{none_out}
use Rattle.admit_port.specs.Calls.{AnswersAt, Call, IsAskedBy, IsAskedFor, answer_of, heard}
use Rattle.admit_port.specs.DriveCode.{IsConnection}
use Rattle.admit_port.specs.Moves.{IsRefused, Moves}
use Rattle.admit_port.specs.Visit.{Goes, HasRested, MovesOnce, Rests, Visit}
use Rattle.admit_port.specs.declared.moved.Moved.{Moved}
use Rattle.admit_port.specs.declared.moved.Moved.TheVariants.{Answered, Turned, Refused, Kept}
use Rattle.admit_port.specs.declared.moved.Rested.{Rested}
use Rattle.admit_port.specs.declared.moved.Rested.TheVariants.{Still, Kept as RestsKept}
use Rattle.shard_port.specs.Port.{came_with}
use Rattle.tcp_relay.specs.Moments.{HaveCalledAt}
use Rattle.tcp_relay.specs.Releasing.{IsKeptFor, GivesBack, GoesBack, HasGivenBack, WasRefused, WasReleased, ends_in, is_ending}
use Rattle.tcp_relay.proofs.MomentGoes.{moves_at, none_called, stands_still}
use Rattle.tcp_relay.proofs.ReleasingCalls.{now_released, told_back}
use Rattle.tcp_relay.proofs.ReleasingMoves.{HoldsAgain, HasReleased, IsOver, ends_yet, has_ended, none_held, over_still, refused_holds, refused_skips, still_none, took_counts, took_gave, turned_ended, unjudged}

none_some : {X : Type 0} (x : X) → None ≡ Some x → ⊥
none_some x e = cc

in_some : {X : Type 0} (x y : X) → Some x ≡ Some y → x ≡ y
in_some x y e = cc

-- ---- what was asked

-- the release of the reference of a slot
asked_is : (shards now : ℕ) (held : Held RefState) (wanted : Need) (asked : Call) (slot : Slot) (entry : ℕ × RefState) → wanted ≡ needs.Release slot → held_at held slot ≡ Some entry → IsAskedFor seated_meaning shards now held wanted asked
    → asked ≡ record { table = entry.0; shard = entry.1.shard; event = events.Release now entry.1.ticket }
asked_is shards now held wanted asked slot entry wants at is =
    let of_slot : IsAskedFor seated_meaning shards now held (needs.Release slot) asked = subst (λ (n : Need). IsAskedFor seated_meaning shards now held n asked) wants is in
    subst (λ (h : Option (ℕ × RefState)). IsAskedBy seated_meaning (λ ticket. events.Release now ticket) h asked) at of_slot

-- a reply that something was released has the reference handed out first
heard_as : (connection : Connection RefState) (at : ℕ) (reply : Reply)
    → ((reply ≡ replies.Released) × (heard seated_meaning connection at reply ≡ took (gave connection) answers.Released None)) ⊎ (heard seated_meaning connection at reply ≡ took connection (answer_of reply) (came_with seated_meaning at reply))
heard_as connection at replies.Released = inl (refl, refl)
heard_as connection at replies.Absent = inr refl
heard_as connection at (replies.Row row) = inr refl
heard_as connection at replies.NoRefs = inr refl
heard_as connection at replies.Full = inr refl
heard_as connection at (replies.Tracked given row) = inr refl
heard_as connection at (replies.Value value) = inr refl
heard_as connection at (replies.NotSettable field) = inr refl
heard_as connection at (replies.NotStored field) = inr refl
heard_as connection at (replies.Written created) = inr refl
heard_as connection at replies.InUse = inr refl
heard_as connection at replies.Removed = inr refl
heard_as connection at (replies.Cleared removed kept) = inr refl
heard_as connection at (replies.Rows used rows) = inr refl
heard_as connection at (replies.Expired count) = inr refl

-- ---- how far it is

module _ (start : List SeatedState) (moment : ℕ) (before : Held RefState) where
  record IsParting (seats : List SeatedState) (progress : Progress RefState) : Type 0 where
    given : progress.given ≡ None
    over : IsOver progress
    each : (slot : Slot) → GoesBack start seats (held_at before slot) (held_at progress.held slot)

  -- as long as it holds the same
  same_held : (seats : List SeatedState) (progress after : Progress RefState) → after.held ≡ progress.held → ((slot : Slot) → GoesBack start seats (held_at before slot) (held_at progress.held slot))
      → (slot : Slot) → GoesBack start seats (held_at before slot) (held_at after.held slot)
  same_held seats progress after held each slot = subst (λ (h : Held RefState). GoesBack start seats (held_at before slot) (held_at h slot)) (sym held) (each slot)

  parts_still : (seats : List SeatedState) (progress after : Progress RefState) → after.given ≡ None → after.phase ≡ progress.phase → after.bytes ≡ progress.bytes → after.held ≡ progress.held → IsParting seats progress → IsParting seats after
  parts_still seats progress after given phase bytes held is = record { given = given; over = over_still progress after phase bytes held is.over; each = same_held seats progress after held is.each }

  -- one was released
  given_up : (new : List SeatedState) (was now : Option (ℕ × RefState)) (entry : ℕ × RefState) → now ≡ Some entry → GoesBack start new was now → WasReleased start new entry → GoesBack start new was None
  given_up new None now entry at back released = absurd (none_some entry (sym back ∙ at))
  given_up new (Some one) None entry at back released = absurd (none_some entry at)
  given_up new (Some one) (Some kept) entry at back released = subst (WasReleased start new) (sym (in_some kept entry at) ∙ back) released

  without : (new : List SeatedState) (held : Held RefState) (slot other : Slot) → GoesBack start new (held_at before slot) None → ((one : Slot) → GoesBack start new (held_at before one) (held_at held one))
      → GoesBack start new (held_at before other) (held_at (held_with held slot None) other)
  without new held Sc0 Sc0 up each = up
  without new held Sc0 Sc1 up each = each Sc1
  without new held Sc0 Sc2 up each = each Sc2
  without new held Sc1 Sc0 up each = each Sc0
  without new held Sc1 Sc1 up each = up
  without new held Sc1 Sc2 up each = each Sc2
  without new held Sc2 Sc0 up each = each Sc0
  without new held Sc2 Sc1 up each = each Sc1
  without new held Sc2 Sc2 up each = up

  over_less : (progress after : Progress RefState) (slot : Slot) (entry : ℕ × RefState) → held_at progress.held slot ≡ Some entry → after.phase ≡ progress.phase → after.bytes ≡ progress.bytes → IsOver progress → IsOver after
  over_less progress after slot entry at phase bytes (ends_yet is) = ends_yet ((λ k. ends_in (phase k) (bytes k)) ∙ is)
  over_less progress after slot entry at phase bytes (has_ended is none) = absurd (none_some entry (sym (none_held progress.held.sc0 progress.held.sc1 progress.held.sc2 slot none) ∙ at))

  -- ---- a move

  hears : (now : ℕ) (old new : List SeatedState) (connection : Connection RefState) (asked : Call) (reply : Reply) → HaveCalledAt moment start old
      → IsAskedFor seated_meaning connection.setup.shards now connection.progress.held (need connection) asked → AnswersAt seated_meaning old asked reply new → IsParting old connection.progress
      → IsParting new (heard seated_meaning connection asked.shard reply).progress
  hears now old new connection asked reply called wants by is = cases (heard_as connection asked.shard reply)
    where
      progress : Progress RefState
      progress = connection.progress

      judged : is_judged progress.phase ≡ false
      judged = unjudged progress is.over

      later : (slot : Slot) → GoesBack start new (held_at before slot) (held_at progress.held slot)
      later slot = told_back old new asked reply by start (held_at before slot) (held_at progress.held slot) (is.each slot)

      grown : IsParting new progress
      grown = record { given = is.given; over = is.over; each = later }

      counts : (after : Progress RefState) → after ≡ counted progress → IsParting new after
      counts after same =
          parts_still new progress after (ap (λ (p : Progress RefState). p.given) same ∙ is.given) (ap (λ (p : Progress RefState). p.phase) same) (ap (λ (p : Progress RefState). p.bytes) same) (ap (λ (p : Progress RefState). p.held) same) grown

      releases : (after : Progress RefState) → reply ≡ replies.Released → HasReleased (need connection) progress after → IsParting new after
      releases after answered_so it =
          let released : WasReleased start new it.entry =
          now_released old new asked reply by start moment now it.entry called (asked_is connection.setup.shards now progress.held (need connection) asked it.slot it.entry it.wants it.at wants) answered_so in
          let up : GoesBack start new (held_at before it.slot) None = given_up new (held_at before it.slot) (held_at progress.held it.slot) it.entry it.at (later it.slot) released in
          record {
            given = ap (λ (p : Progress RefState). p.given) it.is;
            over = over_less progress after it.slot it.entry it.at (ap (λ (p : Progress RefState). p.phase) it.is) (ap (λ (p : Progress RefState). p.bytes) it.is) is.over;
            each = λ slot. subst (λ (p : Progress RefState). GoesBack start new (held_at before slot) (held_at p.held slot)) (sym it.is) (without new progress.held it.slot slot up later);
          }

      gone : reply ≡ replies.Released → ((took_of (asks connection) (gave_of (need connection) progress) None ≡ counted progress) ⊎ HasReleased (need connection) progress (took_of (asks connection) (gave_of (need connection) progress) None))
          → IsParting new (took_of (asks connection) (gave_of (need connection) progress) None)
      gone answered_so (inl same) = counts (took_of (asks connection) (gave_of (need connection) progress) None) same
      gone answered_so (inr it) = releases (took_of (asks connection) (gave_of (need connection) progress) None) answered_so it

      cases : (((reply ≡ replies.Released) × (heard seated_meaning connection asked.shard reply ≡ took (gave connection) answers.Released None))
          ⊎ (heard seated_meaning connection asked.shard reply ≡ took connection (answer_of reply) (came_with seated_meaning asked.shard reply))) → IsParting new (heard seated_meaning connection asked.shard reply).progress
      cases (inl (answered_so, heard_so)) =
          subst (λ (c : Connection RefState). IsParting new c.progress) (sym heard_so) (gone answered_so (took_gave (need connection) (asks connection) progress is.given judged))
      cases (inr heard_so) =
          subst (λ (c : Connection RefState). IsParting new c.progress) (sym heard_so) (counts (took_of (asks connection) progress (came_with seated_meaning asked.shard reply)) (took_counts (asks connection) progress (came_with seated_meaning asked.shard reply) is.given judged))

  turns : (seats : List SeatedState) (connection : Connection RefState) → need connection ≡ needs.Turn → IsParting seats connection.progress → IsParting seats (turned connection).progress
  turns seats connection wants is = record {
    given = is.given;
    over = has_ended (turned_ended connection.progress.phase (asks connection) (unjudged connection.progress is.over)) (ended_law connection (unjudged connection.progress is.over) wants).0;
    each = is.each;
  }

  refuses : (seats : List SeatedState) (connection : Connection RefState) → IsParting seats connection.progress → IsParting seats (refused connection None).progress
  refuses seats connection is =
      let same : (refused connection None).progress ≡ skipped (need connection) connection.progress = refused_skips (asks connection) connection.progress is.given (unjudged connection.progress is.over) in
      let all = same ∙ skipped_leaves (need connection) connection.progress in
      parts_still seats connection.progress (refused connection None).progress (ap (λ (p : Progress RefState). p.given) all ∙ is.given) (ap (λ (p : Progress RefState). p.phase) all) (ap (λ (p : Progress RefState). p.bytes) all)
      (ap (λ (p : Progress RefState). p.held) all) is

  -- ---- a visit

  record IsSoFar (visit : Visit SeatedState RefState ℕ) : Type 0 where
    parting : IsParting visit.ports visit.connection.progress
    called : HaveCalledAt moment start visit.ports
    stands : visit.clock ≡ moment

  -- one more move
  moves_on : (now : ℕ) (old new : List SeatedState) (connection after : Connection RefState) (moved : Moved) → HaveCalledAt moment start old → Moves seated_meaning now old connection new after moved → IsParting old connection.progress → IsParting new after.progress
  moves_on now old new connection after Answered called moves is =
      subst (λ (c : Connection RefState). IsParting new c.progress) (sym moves.4) (hears now old new connection moves.0 moves.1 called moves.2 moves.3 is)
  moves_on now old new connection after Turned called moves is =
      subst (λ seats. IsParting seats after.progress) (sym moves.1) (subst (λ (c : Connection RefState). IsParting old c.progress) (sym moves.2) (turns old connection moves.0 is))
  moves_on now old new connection after Refused called moves is =
      subst (λ seats. IsParting seats after.progress) (sym moves.2) (subst (λ (c : Connection RefState). IsParting old c.progress) (sym moves.3) (refuses old connection is))
  moves_on now old new connection after Kept called moves is =
      let holds = refused_holds (need connection) (asks connection) connection.progress moves.0 moves.1 in
      let held : (refused (gave connection) (Some moves.0)).progress.held ≡ connection.progress.held = (λ k. record { sc0 = holds.each Sc0 k; sc1 = holds.each Sc1 k; sc2 = holds.each Sc2 k }) in
      let again : IsParting old (refused (gave connection) (Some moves.0)).progress =
      parts_still old connection.progress (refused (gave connection) (Some moves.0)).progress holds.given holds.phase holds.bytes held is in
      subst (λ seats. IsParting seats after.progress) (sym moves.3) (subst (λ (c : Connection RefState). IsParting old c.progress) (sym moves.4) again)

  moves_once : (old new : Visit SeatedState RefState ℕ) (moved : Moved) → MovesOnce seated_meaning stands_still old new moved → IsSoFar old → IsSoFar new
  moves_once old new moved once is = record {
    parting = moves_on once.0 old.ports new.ports old.connection new.connection moved is.called once.3 is.parting;
    called = moves_at start moment once.0 old.ports new.ports old.connection new.connection moved (once.1.0 ∙ is.stands) once.3 is.called;
    stands = once.1.1 ∙ is.stands;
  }

  goes_on : (count : ℕ) (old new : Visit SeatedState RefState ℕ) → Goes seated_meaning stands_still count old new → IsSoFar old → IsSoFar new
  goes_on zero old new goes is = subst IsSoFar (sym goes) is
  goes_on (suc count) old new goes is = goes_on count goes.0 new goes.3 (moves_once old goes.0 goes.1 goes.2 is)

  -- the release that was refused
  was_refused : (now : ℕ) (ports : List SeatedState) (connection : Connection RefState) (slot : Slot) (entry : ℕ × RefState) → now ≡ moment → need connection ≡ needs.Release slot → held_at connection.progress.held slot ≡ Some entry
      → IsRefused seated_meaning now ports connection → WasRefused moment ports entry
  was_refused now ports connection slot entry is wants at (inl (asked, asks_it, refused_it)) =
      let same = asked_is connection.setup.shards now connection.progress.held (need connection) asked slot entry wants at asks_it in
      let its_event : asked.event ≡ events.Release moment entry.1.ticket = ap (λ (a : Call). a.event) same ∙ ap (λ n. events.Release n entry.1.ticket) is in
      record {
        seat = refused_it.port;
        at = ap (slice_get ports) (sym (ap (λ (a : Call). a.table) same)) ∙ refused_it.at;
        refusal = refused_it.refusal;
        refused =
            subst (λ at_shard. SeatedRefuse refused_it.port at_shard (events.Release moment entry.1.ticket) refused_it.refusal) (ap (λ (a : Call). a.shard) same)
            (subst (λ event. SeatedRefuse refused_it.port asked.shard event refused_it.refusal) its_event refused_it.refused);
      }
  was_refused now ports connection slot entry is wants at (inr memory) = absurd (false≢true (sym (ap (need_takes_memory connection.setup) wants) ∙ memory))

  rests_back : (old new : Visit SeatedState RefState ℕ) (rested : Rested) → Rests seated_meaning stands_still old new rested → IsSoFar old → HasGivenBack moment start new.ports before new.connection.progress.held
  rests_back old new Still rests is =
      let last : IsSoFar new = subst IsSoFar (sym rests.still.0) (goes_on rests.count old rests.last rests.goes is) in
      let progress = new.connection.progress in
      record {
        each = last.parting.each;
        kept = λ slot there. absurd (false≢true (sym (ap is_some (still_none (asks new.connection) progress last.parting.given last.parting.over rests.still.1 slot)) ∙ there));
      }
  rests_back old new RestsKept rests is =
      let last : IsSoFar rests.last = goes_on rests.count old rests.last rests.goes is in
      let moves = rests.still.3 in
      let connection = rests.last.connection in
      let holds = refused_holds (need connection) (asks connection) connection.progress moves.0 moves.1 in
      let then : IsSoFar new = moves_once rests.last new Kept rests.still last in
      record {
        each = then.parting.each;
        kept = λ slot there. record {
          slot = holds.slot;
          entry = holds.entry;
          at = ap (λ (c : Connection RefState). held_at c.progress.held holds.slot) moves.4 ∙ holds.each holds.slot ∙ holds.at;
          refused =
              subst (λ seats. WasRefused moment seats holds.entry) (sym moves.3)
              (was_refused rests.still.0 rests.last.ports connection holds.slot holds.entry (rests.still.1.0 ∙ last.stands) holds.wants holds.at moves.2);
        };
      }

-- nothing has gone back yet
none_back : (seats : List SeatedState) (held : Option (ℕ × RefState)) → GoesBack seats seats held held
none_back seats None = refl
none_back seats (Some entry) = refl

-- whatever connection it was, as it came to rest
pub rested_back : (old new : List SeatedState) (conn later : Conn RefState) (moment shown : ℕ) (rested : Rested) → IsConnection conn → is_ending conn ≡ true → is_some (progress_of conn).given ≡ false
    → HasRested seated_meaning stands_still old conn moment new later shown rested → GivesBack moment old new (progress_of conn).held (progress_of later).held
rested_back old new conn later moment shown rested living ends none gone =
    ∥∥₁_map living (λ found.
    let visit = gone found.0 found.1 in
    let connection : Connection RefState = found.0 in
    let was : progress_of conn ≡ connection.progress = found.1.progress in
    let is : progress_of later ≡ visit.0.progress = visit.1.progress in
    let begins : IsParting old moment connection.progress.held old connection.progress = record {
      given = none_out connection.progress.given (sym (ap (λ (p : Progress RefState). is_some p.given) was) ∙ none);
      over = ends_yet (sym (ap (λ (p : Progress RefState). ends_in p.phase p.bytes) was) ∙ ends);
      each = λ slot. none_back old (held_at connection.progress.held slot);
    } in
    let back : HasGivenBack moment old new connection.progress.held visit.0.progress.held =
    rests_back old moment connection.progress.held (record { ports = old; connection = connection; clock = moment }) (record { ports = new; connection = visit.0; clock = shown }) rested visit.2 (record { parting = begins; called = none_called moment old; stands = refl }) in
    subst (λ (h : Held RefState). HasGivenBack moment old new h (progress_of later).held) (sym (ap (λ (p : Progress RefState). p.held) was))
    (subst (λ (h : Held RefState). HasGivenBack moment old new connection.progress.held h) (sym (ap (λ (p : Progress RefState). p.held) is)) back))
