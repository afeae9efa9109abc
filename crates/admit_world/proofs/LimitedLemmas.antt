-- Whatever the schedule, admitted connections hold a key at most as often as the limit.
use Rattle.std.proofs.Common.{◌≡◌, ⊎_elim, ℕ, ◌≤◌, ◌<◌, ◌^◌, refl, sym, ap, subst, ◌∙◌, arith, Bool, true, ◌&&◌, List, [], ◌∷◌, length, slice_get, Option, Some, option_map, is_some}
use Rattle.std.specs.List.{list_any}
use Rattle.std.specs.Option.{option_and_then}
use Rattle.std.proofs.lemmas.List.Elements.{All-head, All-tail}
use Rattle.stick_key.specs.Shard.{shard}
use Rattle.stick_model.specs.Key.{Key}
use Rattle.stick_model.specs.Passed.{passing_looks}
use Rattle.stick_model.specs.State.{State, key_of, same_ticket}
use Rattle.stick_model.specs.declared.rows.Ticket.{Ticket}
use Rattle.stick_model.proofs.KeyLemmas.{same_key-refl}
use Rattle.rule_model.specs.declared.actions.Slot.TheVariants.{Sc0}
use Rattle.rule_model.specs.declared.sections.Setup.{Setup}
use Rattle.rule_eval.specs.Limit.{LimitsFirst}
use Rattle.shard_book.specs.BookState.{BookState, IsBook}
use Rattle.admit_core.specs.Connection.{Connection}
use Rattle.admit_core.specs.declared.held.Held.{Held}
use Rattle.admit_core.specs.declared.need.Phase.TheVariants.{Admitted}
use Rattle.admit_drive.specs.Balance.{times_by}
use Rattle.admit_world.specs.Limit.{AdmittedLimitLaw, AdmittedPassedLaw, HasPassed, key_held}
use Rattle.admit_drive.specs.Tables.{book_at, shard_at}
use Rattle.admit_world.specs.World.{Element, Elements, IsSchedule, WorldState, begun, woken}
use Rattle.shard_port.specs.declared.reference.Reference.{Reference}
use Rattle.admit_world.specs.declared.visit.Visit.{Visit}
use Rattle.admit_world.proofs.AdmittedLemmas.{limited_count, ticket_passed}
use Rattle.admit_drive.proofs.SumLemmas.{some_same, sum_at}
use Rattle.admit_world.proofs.GoneLemmas.{HasGone, move_gone}
use Rattle.admit_drive.proofs.TablesLemmas.{get_after_set}
use Rattle.admit_world.proofs.HeardLemmas.{tracked_still}
use Rattle.admit_drive.proofs.CallLemmas.{held_out, out_here}
use Rattle.admit_world.proofs.LimitLemmas.{HasTracked, IsLimited, Looked}
use Rattle.admit_drive.proofs.ShardLemmas.{live_in}
use Rattle.admit_world.proofs.RecordLemmas.{IsOwnRun, book_there, own_of_book}
use Rattle.admit_world.proofs.ShardLemmas.{looked_passed}
use Rattle.admit_world.proofs.StartLemmas.{begun_limited}
use Rattle.admit_world.proofs.WorldLemmas.{IsWoken, IsWorld, awake, begun_world, element_world}

-- what a connection holds by sc0 is out
held_keyed : (setup : Setup) (world : WorldState) (i : ℕ) (connection : Connection Reference) (entry : ℕ × Reference) → IsWorld setup world → slice_get world.connections i ≡ Some connection → connection.progress.held.sc0 ≡ Some entry
    → is_some (key_held world.tables (Some entry)) ≡ true
held_keyed setup world i connection entry stands at holds =
    let out : 1 ≤ Rattle.admit_drive.specs.Balance.times_out entry world.tables =
    held_out world.tables connection.progress.held Sc0 entry
    (λ reference. omega (arith, stands.balance reference, sum_at (λ (c : Connection Reference). times_by reference c.progress.held) world.connections i connection at)) holds in
    let here = out_here world.tables entry out in
    ap (λ o. is_some (option_and_then (λ (state : State). key_of entry.1.ticket state.tickets) o)) here.1 ∙ here.2

-- ---- one goes on

module _ (setup : Setup) (visits : List Visit) (old new : WorldState) (element : ℕ × ℕ) (was_refused : Bool) (name : List ℕ) (table limit : ℕ) (key : Key) (goes : Element visits old element new was_refused) (before : IsWorld setup old) (moment : element.1 < 2 ^ 62) (first : LimitsFirst setup name table limit) (limited : IsLimited setup table limit key old) where
  abbrev passed : List Ticket
  passed = passing_looks key limit limited.events limited.replies

  abbrev mover : Connection Reference
  mover = woken goes.visit goes.connection

  is_woken : IsWoken goes.connection mover
  is_woken = awake setup visits old new element was_refused goes before moment

  mover_tracked : (entry : ℕ × Reference) → mover.progress.held.sc0 ≡ Some entry → HasTracked setup table limit key old.tables passed mover entry
  mover_tracked entry at =
      let tracked : HasTracked setup table limit key old.tables passed goes.connection entry = limited.each element.0 goes.connection entry goes.is_it (sym (ap (λ (h : Held Reference). h.sc0) is_woken.held) ∙ at) in
      tracked_still setup table limit key old.tables old.tables passed passed goes.connection mover entry tracked is_woken.samples tracked.keyed (λ same_source. subst (Looked limit passed entry.1.ticket) (sym is_woken.answers) (tracked.looked same_source))

  will : IsWorld setup new
  will = element_world setup visits old new element was_refused goes before moment

  gone : HasGone setup table limit key limited.spec limited.events limited.replies old.tables new.tables goes.after
  gone =
      move_gone setup name table limit key old.tables limited.spec limited.events limited.replies mover first before.tables limited.stores (record { live = limited.live; at = limited.at; run = limited.run; recorded = limited.recorded })
      is_woken.lived (is_woken.setup ∙ (before.each element.0 goes.connection goes.is_it).1) mover_tracked new.tables will.tables element.1 goes.after was_refused goes.moves

  pub element_limited : IsLimited setup table limit key new
  element_limited = record {
    spec = limited.spec;
    events = gone.events;
    replies = gone.replies;
    live = gone.comes.live;
    stores = limited.stores;
    at = gone.comes.at;
    run = gone.comes.run;
    recorded = gone.comes.recorded;
    each = λ i connection entry at holds.
        let later : List Ticket = passing_looks key limit gone.events gone.replies in
        let out : is_some (key_held new.tables (Some entry)) ≡ true = held_keyed setup new i connection entry will at holds in
        ⊎_elim {C = HasTracked setup table limit key new.tables later connection entry}
        (λ (here : (i ≡ element.0) × (connection ≡ goes.after)).
        subst (λ (c : Connection Reference). HasTracked setup table limit key new.tables later c entry) (sym here.1) (gone.moved entry (sym (ap (λ (c : Connection Reference). c.progress.held.sc0) here.1) ∙ holds) out))
        (λ (there : slice_get old.connections i ≡ Some connection).
        let tracked : HasTracked setup table limit key old.tables passed connection entry = limited.each i connection entry there holds in
        tracked_still setup table limit key old.tables new.tables passed later connection connection entry tracked refl (gone.keyed entry tracked.source tracked.keyed out)
        (λ same_source. looked_passed limit passed later entry.1.ticket connection.answers (gone.more entry.1.ticket) (tracked.looked same_source)))
        (get_after_set old.connections element.0 i goes.after connection (ap (λ cs. slice_get cs i) (sym goes.others) ∙ at));
  }

-- ---- one after another

elements_limited : (setup : Setup) (visits : List Visit) (name : List ℕ) (table limit : ℕ) (key : Key) (old : WorldState) (schedule : List (ℕ × ℕ)) (new : WorldState) (count : ℕ) → IsSchedule (length visits) schedule → Elements visits old schedule new count
    → LimitsFirst setup name table limit → IsWorld setup old → IsLimited setup table limit key old → IsWorld setup new × IsLimited setup table limit key new
elements_limited setup visits name table limit key old [] new count is goes first before limited = (subst (IsWorld setup) (sym goes.0) before, subst (IsLimited setup table limit key) (sym goes.0) limited)
elements_limited setup visits name table limit key old (element ∷ more) new count is goes first before limited =
    let one = All-head (λ (e : ℕ × ℕ). (e.0 < length visits) × (e.1 < 2 ^ 62)) element more is in
    let rest = All-tail (λ (e : ℕ × ℕ). (e.0 < length visits) × (e.1 < 2 ^ 62)) element more is in
    elements_limited setup visits name table limit key goes.0 more new goes.2 rest goes.4 first (element_world setup visits old goes.0 element goes.1 goes.3 before one.1)
    (element_limited setup visits old goes.0 element goes.1 name table limit key goes.3 before one.1 first limited)

pub limit_law : AdmittedLimitLaw
limit_law setup visits schedule world count name table limit key opens first is goes =
    let stand = elements_limited setup visits name table limit key (begun setup visits) schedule world count is goes first (begun_world setup visits opens) (begun_limited setup visits name table limit key opens first) in
    limited_count setup name table limit key world first stand.0 stand.1

-- ---- who has passed

passed_of : (setup : Setup) (name : List ℕ) (table limit i : ℕ) (world : WorldState) (connection : Connection Reference) (entry : ℕ × Reference) (source : Key) → LimitsFirst setup name table limit → IsWorld setup world
    → (limited : IsLimited setup table limit source world) → slice_get world.connections i ≡ Some connection → connection.progress.phase ≡ Admitted
    → (tracked : HasTracked setup table limit source world.tables (passing_looks source limit limited.events limited.replies) connection entry) → tracked.source ≡ source → (entry.0 ≡ table) × HasPassed setup.shards limit world.tables entry
passed_of setup name table limit i world connection entry source first stands limited at admitted tracked same =
    let passes : list_any (same_ticket entry.1.ticket) (passing_looks source limit limited.events limited.replies) ≡ true = ticket_passed setup name table limit source world first stands limited i connection entry at tracked admitted same in
    let part : ℕ = shard source setup.shards in
    let on : entry.1.shard ≡ part = tracked.on_shard ∙ ap (λ k. shard k setup.shards) same in
    let of_state : Option State → Option Key = λ o. option_and_then (λ (state : State). key_of entry.1.ticket state.tickets) o in
    let there : shard_at world.tables entry.0 entry.1.shard ≡ Some limited.live = (λ k. shard_at world.tables (tracked.in_table k) (on k)) ∙ limited.at in
    let book : BookState = limited.recorded.book in
    let live : book.live ≡ limited.live = some_same book.live limited.live (sym (live_in world.tables table part ∙ ap (option_map (λ (b : BookState). b.live)) limited.recorded.at) ∙ limited.at) in
    let is : IsBook book = book_there setup world.tables table part book stands.tables limited.recorded.at in
    let own : IsOwnRun book is limited.spec limited.events limited.replies =
    own_of_book table part world.tables limited.spec limited.events limited.replies limited.live limited.recorded is limited.run live in (
      tracked.in_table,
      record {
        key = source;
        book = book;
        is = is;
        at = (λ k. book_at world.tables (tracked.in_table k) (on k)) ∙ limited.recorded.at;
        on_shard = on;
        since_empty = own.since_empty;
        of_key = ap (λ (s : State). key_of entry.1.ticket s.tickets) live ∙ sym (ap of_state there) ∙ tracked.keyed ∙ ap Some same;
        passed = (λ k. same_key-refl source k && list_any (same_ticket entry.1.ticket) (passing_looks source limit (own.events_are k) (own.replies_are k))) ∙ passes;
      },
    )

pub admitted_passed_law : AdmittedPassedLaw
admitted_passed_law setup visits schedule world count name table limit i connection entry opens first is goes at admitted holds =
    let stand : (key : Key) → IsWorld setup world × IsLimited setup table limit key world =
    λ key. elements_limited setup visits name table limit key (begun setup visits) schedule world count is goes first (begun_world setup visits opens) (begun_limited setup visits name table limit key opens first) in
    let any = (stand []).1.each i connection entry at holds in
    let own = stand any.source in
    let tracked = own.1.each i connection entry at holds in
    passed_of setup name table limit i world connection entry any.source first own.0 own.1 at admitted tracked (some_same tracked.source any.source (sym tracked.is ∙ any.is))
