-- What a connection holds by sc0 is of its source's key, and its look passes the limit, whatever it is answered.
use Rattle.std.proofs.Common.{◌≡◌, ℕ, ◌≤◌, refl, sym, ap, subst, ◌∙◌, arith, Bool, true, false, cond, not, ◌&&◌, if◌then◌else◌, nat_le, List, [], ◌∷◌, ◌++◌, Option, Some, None, is_some}
use Rattle.std.specs.List.{list_any}
use Rattle.std.specs.Option.{option_and_then}
use Rattle.std.proofs.lemmas.Bool.{false≢true}
use Rattle.std.proofs.lemmas.Bool.Decides.{nat_tests}
use Rattle.stick_key.specs.Shard.{shard}
use Rattle.stored_data.specs.Stored.{is_column}
use Rattle.stored_data.specs.declared.datum.Datum.TheVariants.{ConnCur}
use Rattle.stick_model.specs.Key.{Key, same_key}
use Rattle.stick_model.specs.Laws.{IsAnsweredFrom}
use Rattle.stick_model.specs.Passed.{passing_look, passing_looks}
use Rattle.stick_model.specs.State.{State, key_of, same_ticket}
use Rattle.stick_model.specs.Step.{Step}
use Rattle.stick_model.specs.declared.events.Event.{Event}
use Rattle.stick_model.specs.declared.events.Event.TheVariants as events
use Rattle.stick_model.specs.declared.replies.Reply.{Reply}
use Rattle.stick_model.specs.declared.replies.Reply.TheVariants as replies
use Rattle.stick_model.specs.declared.rows.Row.{Row}
use Rattle.stick_model.specs.declared.rows.Ticket.{Ticket}
use Rattle.stick_model.specs.declared.specification.Spec.{Spec}
use Rattle.stick_model.proofs.KeyLemmas.{same_key-refl}
use Rattle.stick_model.proofs.ReferenceLemmas.{reference-law}
use Rattle.stick_model.proofs.StepLemmas.{step_tickets}
use Rattle.rule_model.specs.declared.actions.KeyExpression.TheVariants as keys
use Rattle.rule_model.specs.declared.actions.Slot.{Slot}
use Rattle.rule_model.specs.declared.actions.Slot.TheVariants.{Sc0, Sc1, Sc2}
use Rattle.rule_model.specs.declared.sections.Setup.{Setup}
use Rattle.rule_eval.specs.Left.{is_done}
use Rattle.rule_eval.specs.Limit.{LimitsFirst, wants_sc0}
use Rattle.rule_eval.specs.Readings.{value_in}
use Rattle.rule_eval.specs.Tables.{key_of as source_key}
use Rattle.rule_eval.specs.Verdict.{next}
use Rattle.rule_eval.specs.declared.wants.Answer.{Answer}
use Rattle.rule_eval.specs.declared.wants.Answer.TheVariants as answers
use Rattle.rule_eval.specs.declared.wants.Want.TheVariants as wants
use Rattle.rule_eval.proofs.LimitLaws.{first_lem, never_lem, once_lem, second_lem}
use Rattle.admit_core.specs.Connection.{Connection, Progress, asks, is_asking, is_judged, need, need_given, need_in, need_of, took}
use Rattle.admit_core.specs.Held.{held_at, held_with}
use Rattle.admit_core.specs.declared.held.Held.{Held}
use Rattle.admit_core.specs.declared.need.Need.{Need}
use Rattle.admit_core.specs.declared.need.Need.TheVariants as needs
use Rattle.admit_core.specs.declared.need.Phase.{Phase}
use Rattle.admit_core.specs.declared.need.Phase.TheVariants.{New, Judging, Admitted, Rejected, Ended}
use Rattle.admit_core.proofs.ShownLemmas.{look_law}
use Rattle.admit_drive.specs.Calls.{AnswersAt, call_by, call_of, fits, heard}
use Rattle.admit_world.specs.Limit.{key_held}
use Rattle.admit_drive.specs.Lived.{IsLived}
use Rattle.admit_drive.specs.Tables.{AreTablesOf, TableState, shard_at}
use Rattle.admit_port.specs.Calls.{Call}
use Rattle.shard_port.specs.declared.reference.Reference.{Reference}
use Rattle.admit_drive.proofs.SumLemmas.{some_same}
use Rattle.admit_world.proofs.GrownLemmas.{IsGrown, IsRun, own_run}
use Rattle.admit_drive.proofs.HeldLemmas.{took_nothing, took_tracked, track_in}
use Rattle.admit_drive.proofs.CallLemmas.{legal_at}
use Rattle.admit_world.proofs.LimitLemmas.{HasTracked, Looked}
use Rattle.admit_drive.proofs.LivedLemmas.{released_as}
use Rattle.admit_world.proofs.PassedLemmas.{key_new}
use Rattle.admit_drive.proofs.ShardLemmas.{after_of, before_of, replaces, step_of}
use Rattle.admit_world.proofs.ShardLemmas.{keyed_stays, looked_more, looked_passed}
use Rattle.admit_world.proofs.StayLemmas.{track_key}
use Rattle.admit_drive.proofs.TicketLemmas.{once_of, same, same_self, times, tracked_times}

-- ---- a look that passes

le_to : (a b : ℕ) → a ≤ b → nat_le a b ≡ true
le_to a b less = grind (arith, nat_tests)

the_row : (a b : Row) → replies.Row a ≡ replies.Row b → a ≡ b
the_row a b e = cc

the_call : (a b : Call) → Some a ≡ Some b → a ≡ b
the_call a b e = cc

-- a row of at most the limit, as a shard shows it to a reference of the key, passes
passes : (old new : List TableState) (setup : Setup) (table part limit now : ℕ) (key : Key) (call : Call) (row : Row) (spec : Spec) (made : List Event) (told : List Reply) (entry : ℕ × Reference)
    (answers_it : AnswersAt old call (replies.Row row) new) → AreTablesOf setup old → is_column spec.columns ConnCur ≡ true → IsRun table part old spec made told
    → call ≡ record { table = entry.0; shard = entry.1.shard; event = events.Look now entry.1.ticket } → entry.0 ≡ table → entry.1.shard ≡ part → key_held old (Some entry) ≡ Some key → value_in row.cells ConnCur ≤ limit
    → list_any (same_ticket entry.1.ticket) (passing_look key limit call.event (replies.Row row)) ≡ true
passes old new setup table part limit now key call row spec made told entry answers_it are stores comes is t s keyed within =
    let ticket : Ticket = entry.1.ticket in
    let replaced = replaces old new call (replies.Row row) answers_it in
    let legal = legal_at setup old call.table call.shard (before_of answers_it) are replaced.was in
    let event : call.event ≡ events.Look now ticket = ap (λ (c : Call). c.event) is in
    let step : Step (before_of answers_it) (events.Look now ticket) (replies.Row row) (after_of answers_it) = subst (λ e. Step (before_of answers_it) e (replies.Row row) (after_of answers_it)) event (step_of answers_it) in
    let there : shard_at old entry.0 entry.1.shard ≡ Some (before_of answers_it) = ap (λ (c : Call). shard_at old c.table c.shard) (sym is) ∙ replaced.was in
    let out : key_of ticket (before_of answers_it).tickets ≡ Some key = sym (ap (λ o. option_and_then (λ (state : State). key_of ticket state.tickets) o) there) ∙ keyed in
    let from : IsAnsweredFrom (before_of answers_it) key (events.Look now ticket) (replies.Row row) = reference-law (before_of answers_it) (events.Look now ticket) (replies.Row row) (after_of answers_it) ticket key legal step refl out in
    let shown = the_row row _ from.answered in
    let of_key : row.key ≡ key = ap (λ (r : Row). r.key) shown in
    let run = own_run table part old new call (replies.Row row) spec made told answers_it comes (ap (λ (c : Call). c.table) is ∙ t) (ap (λ (c : Call). c.shard) is ∙ s) in
    let refs : value_in row.cells ConnCur ≡ row.refs = look_law spec made told (before_of answers_it) now ticket row (after_of answers_it) stores run step in
    let few : nat_le row.refs limit ≡ true = le_to row.refs limit (omega (arith, refs, within)) in
    let same_one : same_key key row.key ≡ true = ap (same_key key) of_key ∙ same_key-refl key in
    ap (λ e. list_any (same_ticket ticket) (passing_look key limit e (replies.Row row))) event
    ∙ (λ k. list_any (same_ticket ticket) (if (same_one k && few k) then ticket ∷ [] else []))
    ∙ ap (λ b. b) (first_of (same_ticket ticket ticket) (same_self ticket))
  where
    first_of : (b : Bool) → b ≡ true → Rattle.std.proofs.Common.◌||◌ b false ≡ true
    first_of true is = refl
    first_of false is = is

-- ---- what it holds stays so

pub tracked_still : (setup : Setup) (table limit : ℕ) (key : Key) (old new : List TableState) (passed later : List Ticket) (connection after : Connection Reference) (entry : ℕ × Reference)
    (tracked : HasTracked setup table limit key old passed connection entry) → after.samples ≡ connection.samples → key_held new (Some entry) ≡ Some tracked.source
    → (tracked.source ≡ key → Looked limit later entry.1.ticket after.answers) → HasTracked setup table limit key new later after entry
tracked_still setup table limit key old new passed later connection after entry tracked samples keyed looked = record {
  source = tracked.source;
  is = ap (λ known. source_key setup known keys.Source table) samples ∙ tracked.is;
  in_table = tracked.in_table;
  on_shard = tracked.on_shard;
  keyed = keyed;
  looked = looked;
}

-- ---- what its rules ask

judged_look : (phase : Phase) (progress : Progress Reference) → is_judged phase ≡ true → need_in phase (wants.Look Sc0) progress ≡ needs.Look Sc0
judged_look New progress judged = refl
judged_look Judging progress judged = refl
judged_look Admitted progress judged = absurd (false≢true judged)
judged_look Rejected progress judged = absurd (false≢true judged)
judged_look Ended progress judged = absurd (false≢true judged)

need_look : (connection : Connection Reference) → connection.progress.given ≡ None → is_judged connection.progress.phase ≡ true → asks connection ≡ wants.Look Sc0 → need connection ≡ needs.Look Sc0
unfolding need_of
need_look connection none judged is =
    ap (λ g. need_given g (asks connection) connection.progress) none ∙ ap (λ w. need_in connection.progress.phase w connection.progress) is ∙ judged_look connection.progress.phase connection.progress judged

track_asked : (connection : Connection Reference) (slot : Slot) (table : ℕ) (key : List ℕ) → connection.progress.given ≡ None → need connection ≡ needs.Track slot table key
    → (is_judged connection.progress.phase ≡ true) × (asks connection ≡ wants.Track slot table key)
unfolding need_of
track_asked connection slot table key none is = track_in connection.progress.phase (asks connection) connection.progress slot table key (sym (ap (λ g. need_given g (asks connection) connection.progress) none) ∙ is)

first_true : (a b : Bool) → (a && b) ≡ true → a ≡ true
first_true true b both = refl
first_true false b both = absurd (false≢true both)

-- ---- a shard answers

module _ (setup : Setup) (name : List ℕ) (table limit : ℕ) (key : Key) (old new : List TableState) (spec : Spec) (made : List Event) (told : List Reply) (connection : Connection Reference) (first : LimitsFirst setup name table limit) (are : AreTablesOf setup old) (will : AreTablesOf setup new) (stores : is_column spec.columns ConnCur ≡ true) (comes : IsRun table (shard key setup.shards) old spec made told) (lived : IsLived connection) (ours : connection.setup ≡ setup) (before : (entry : ℕ × Reference) → connection.progress.held.sc0 ≡ Some entry → HasTracked setup table limit key old (passing_looks key limit made told) connection entry) (call : Call) (reply : Reply) (answers_it : AnswersAt old call reply new) (grows : IsGrown table (shard key setup.shards) limit key spec made told new call reply) where
  abbrev later : List Ticket
  later = passing_looks key limit grows.events grows.replies

  abbrev passed_before : List Ticket
  passed_before = passing_looks key limit made told

  -- of each reference that is out
  abbrev StaysTracked : Connection Reference → Type 0
  StaysTracked after = (entry : ℕ × Reference) → after.progress.held.sc0 ≡ Some entry → is_some (key_held new (Some entry)) ≡ true → HasTracked setup table limit key new later after entry

  -- it holds the same by sc0
  keeps : (after : Connection Reference) → after.samples ≡ connection.samples → after.progress.held.sc0 ≡ connection.progress.held.sc0
      → ((entry : ℕ × Reference) → connection.progress.held.sc0 ≡ Some entry → (tracked : HasTracked setup table limit key old passed_before connection entry) → tracked.source ≡ key → Looked limit later entry.1.ticket after.answers) → StaysTracked after
  keeps after samples held looked entry at out =
      let was : connection.progress.held.sc0 ≡ Some entry = sym held ∙ at in
      let tracked : HasTracked setup table limit key old passed_before connection entry = before entry was in
      tracked_still setup table limit key old new passed_before later connection after entry tracked samples (keyed_stays old new call reply answers_it entry tracked.source tracked.keyed out) (λ same_source. looked entry was tracked same_source)

  looked_still : (entry : ℕ × Reference) (tracked : HasTracked setup table limit key old passed_before connection entry) → tracked.source ≡ key → Looked limit later entry.1.ticket connection.answers
  looked_still entry tracked same_source = looked_passed limit passed_before later entry.1.ticket connection.answers (grows.more entry.1.ticket) (tracked.looked same_source)

  -- it holds the same, and its answers are the same
  pub keeps_all : (after : Connection Reference) → after.samples ≡ connection.samples → after.progress.held.sc0 ≡ connection.progress.held.sc0 → after.answers ≡ connection.answers → StaysTracked after
  keeps_all after samples held given =
      keeps after samples held (λ entry was tracked same_source. subst (Looked limit later entry.1.ticket) (sym given) (looked_still entry tracked same_source))

  -- a row right behind the reference has to have passed
  abbrev Passes : Answer → ℕ × Reference → Type 0
  Passes answer entry = (row : Row) → is_asking (asks connection) connection.progress ≡ true → connection.answers ≡ answers.Tracked ∷ [] → answer ≡ answers.Row row → value_in row.cells ConnCur ≤ limit → list_any (same_ticket entry.1.ticket) later ≡ true

  looked_took : (answer : Answer) (b : Bool) (entry : ℕ × Reference) (tracked : HasTracked setup table limit key old passed_before connection entry) → is_asking (asks connection) connection.progress ≡ b → tracked.source ≡ key → Passes answer entry
      → Looked limit later entry.1.ticket (if b then connection.answers ++ answer ∷ [] else connection.answers)
  looked_took answer true entry tracked asking same_source last =
      looked_more limit later entry.1.ticket connection.answers answer (λ row given is within. last row asking given is within) (looked_still entry tracked same_source)
  looked_took answer false entry tracked asking same_source last = looked_still entry tracked same_source

  heard_answer : (answer : Answer) (reference : Option Reference) → (took connection answer reference).progress.held.sc0 ≡ connection.progress.held.sc0
      → ((entry : ℕ × Reference) → connection.progress.held.sc0 ≡ Some entry → (tracked : HasTracked setup table limit key old passed_before connection entry) → tracked.source ≡ key → Passes answer entry) → StaysTracked (took connection answer reference)
  heard_answer answer reference held last =
      keeps (took connection answer reference) refl held
      (λ entry was tracked same_source. looked_took answer (is_asking (asks connection) connection.progress) entry tracked refl same_source (last entry was tracked same_source))

  heard_other : (answer : Answer) → ((row : Row) → answer ≡ answers.Row row → ⊥) → StaysTracked (took connection answer None)
  heard_other answer other =
      heard_answer answer None (ap (λ (h : Held Reference). h.sc0) (took_nothing (asks connection) connection.progress lived.given).0) (λ entry was tracked same_source row asking given is within. absurd (other row is))

  -- ---- a row

  heard_row : (now : ℕ) (wanted : Need) (row : Row) → reply ≡ replies.Row row → need connection ≡ wanted → call_of connection.setup.shards now connection.progress.held wanted ≡ Some call → StaysTracked (took connection (answers.Row row) None)
  heard_row now wanted row told_so is asks_it =
      heard_answer (answers.Row row) None (ap (λ (h : Held Reference). h.sc0) (took_nothing (asks connection) connection.progress lived.given).0)
      (λ entry was tracked same_source shown asking given same_row within.
      let rows : row ≡ shown = cc in
      let second : asks connection ≡ wants.Look Sc0 = ap (λ s. next s connection.samples connection.answers) ours ∙ ap (next setup connection.samples) given ∙ second_lem setup name table limit connection.samples tracked.source first tracked.is in
      let judged : is_judged connection.progress.phase ≡ true = first_true (is_judged connection.progress.phase) (not (is_done (asks connection))) asking in
      let look : wanted ≡ needs.Look Sc0 = sym is ∙ need_look connection lived.given judged second in
      let named : Some call ≡ call_by (λ ticket. events.Look now ticket) (Some entry) =
      sym asks_it ∙ ap (call_of connection.setup.shards now connection.progress.held) look ∙ ap (call_by (λ ticket. events.Look now ticket)) was in
      let asked : call ≡ record { table = entry.0; shard = entry.1.shard; event = events.Look now entry.1.ticket } = the_call call (record { table = entry.0; shard = entry.1.shard; event = events.Look now entry.1.ticket }) named in
      let on : entry.1.shard ≡ shard key setup.shards = tracked.on_shard ∙ ap (λ k. shard k setup.shards) same_source in
      let shows : AnswersAt old call (replies.Row row) new = subst (λ r. AnswersAt old call r new) told_so answers_it in
      let few : value_in row.cells ConnCur ≤ limit = subst (λ (r : Row). value_in r.cells ConnCur ≤ limit) (sym rows) within in
      let passed_so : list_any (same_ticket entry.1.ticket) (passing_look key limit call.event (replies.Row row)) ≡ true =
      passes old new setup table (shard key setup.shards) limit now key call row spec made told entry shows are stores comes asked tracked.in_table on (tracked.keyed ∙ ap Some same_source) few in
      grows.last (ap (λ (c : Call). c.table) asked ∙ tracked.in_table) (ap (λ (c : Call). c.shard) asked ∙ on) entry.1.ticket
      (ap (λ r. list_any (same_ticket entry.1.ticket) (passing_look key limit call.event r)) told_so ∙ passed_so))

  -- ---- a reference

  -- a reference that was made is of the key that was asked
  made_keyed : (now : ℕ) (source : Key) (given : Ticket) (row : Row) → reply ≡ replies.Tracked given row → call.event ≡ events.Track now source → key_held new (Some (call.table, record { shard = call.shard; ticket = given })) ≡ Some source
  made_keyed now source given row told_so event =
      let replaced = replaces old new call reply answers_it in
      let step : Step (before_of answers_it) (events.Track now source) (replies.Tracked given row) (after_of answers_it) =
      subst (λ r. Step (before_of answers_it) (events.Track now source) r (after_of answers_it)) told_so (subst (λ e. Step (before_of answers_it) e reply (after_of answers_it)) event (step_of answers_it)) in
      let legal = legal_at setup new call.table call.shard (after_of answers_it) will replaced.is in
      let of_key : row.key ≡ source = track_key (before_of answers_it) now source given row (after_of answers_it) step in
      let itself : ◌≡◌ {A = ℕ} (same given given) 1 = ap (λ b. cond b 1 0) (same_self given) in
      let none : times given (before_of answers_it).tickets ≡ 0 =
      omega (arith, itself, tracked_times (before_of answers_it) (events.Track now source) given row (after_of answers_it) given step, once_of given (after_of answers_it) legal) in
      ap (λ o. option_and_then (λ (state : State). key_of given state.tickets) o) replaced.is
      ∙ ap (key_of given) (step_tickets (before_of answers_it) (events.Track now source) (replies.Tracked given row) (after_of answers_it) step)
      ∙ ap (λ k. key_of given ((before_of answers_it).tickets ++ (given, k) ∷ [])) of_key
      ∙ key_new given source (before_of answers_it).tickets none

  -- the first one is asked for at once, in the table and of the source
  asked_first : (asked : ℕ) (subject : Key) → asks connection ≡ wants.Track Sc0 asked subject → (source_key setup connection.samples keys.Source table ≡ Some subject) × (asked ≡ table) × (connection.answers ≡ [])
  asked_first asked subject is = by (source_key setup connection.samples keys.Source table) connection.answers refl refl
    where
      wanted : (given : List Answer) → connection.answers ≡ given → next setup connection.samples given ≡ wants.Track Sc0 asked subject
      wanted given at = ap (next setup connection.samples) (sym at) ∙ ap (λ s. next s connection.samples connection.answers) (sym ours) ∙ is

      by : (o : Option Key) (given : List Answer) → source_key setup connection.samples keys.Source table ≡ o → connection.answers ≡ given → (source_key setup connection.samples keys.Source table ≡ Some subject) × (asked ≡ table) × (connection.answers ≡ [])
      by None given none at = absurd (false≢true (sym (never_lem setup name table limit connection.samples given first none) ∙ ap wants_sc0 (wanted given at)))
      by (Some source) [] some at =
          let one : wants.Track Sc0 table source ≡ wants.Track Sc0 asked subject = sym (first_lem setup name table limit connection.samples source first some) ∙ wanted [] at in
          let of_source : source ≡ subject = cc in
          let in_table : asked ≡ table = cc in
          (some ∙ ap Some of_source, in_table, at)
      by (Some source) (answer ∷ more) some at = absurd (false≢true (sym (once_lem setup name table limit connection.samples answer more first) ∙ ap wants_sc0 (wanted (answer ∷ more) at)))

  heard_tracked : (now : ℕ) (slot : Slot) (asked : ℕ) (subject : Key) (given : Ticket) (row : Row) → reply ≡ replies.Tracked given row → need connection ≡ needs.Track slot asked subject
      → call_of connection.setup.shards now connection.progress.held (needs.Track slot asked subject) ≡ Some call → StaysTracked (took connection answers.Tracked (Some (record { shard = call.shard; ticket = given })))
  heard_tracked now Sc1 asked subject given row told_so is asks_it =
      heard_answer answers.Tracked (Some (record { shard = call.shard; ticket = given }))
      (ap (λ (h : Held Reference). h.sc0) (took_tracked (asks connection) connection.progress Sc1 asked subject (record { shard = call.shard; ticket = given }) lived.given is).0) (λ entry was tracked same_source shown asking so same_row within. cc)
  heard_tracked now Sc2 asked subject given row told_so is asks_it =
      heard_answer answers.Tracked (Some (record { shard = call.shard; ticket = given }))
      (ap (λ (h : Held Reference). h.sc0) (took_tracked (asks connection) connection.progress Sc2 asked subject (record { shard = call.shard; ticket = given }) lived.given is).0) (λ entry was tracked same_source shown asking so same_row within. cc)
  heard_tracked now Sc0 asked subject given row told_so is asks_it =
      λ entry at out.
      let reference : Reference = record { shard = call.shard; ticket = given } in
      let after : Connection Reference = took connection answers.Tracked (Some reference) in
      let judged = track_asked connection Sc0 asked subject lived.given is in
      let firsts = asked_first asked subject judged.1 in
      let held : after.progress.held.sc0 ≡ Some (asked, reference) = ap (λ (h : Held Reference). h.sc0) (took_tracked (asks connection) connection.progress Sc0 asked subject reference lived.given is).0 in
      let itself : (asked, reference) ≡ entry = some_same (asked, reference) entry (sym held ∙ at) in
      let calls : call ≡ record { table = asked; shard = shard subject connection.setup.shards; event = events.Track now subject } =
      the_call call (record { table = asked; shard = shard subject connection.setup.shards; event = events.Track now subject }) (sym asks_it) in
      let answered : after.answers ≡ answers.Tracked ∷ [] = λ k. if (judged.0 k && not (is_done (judged.1 k))) then firsts.2 k ++ answers.Tracked ∷ [] else firsts.2 k in
      let tracked : HasTracked setup table limit key new later after (asked, reference) = record {
        source = subject;
        is = firsts.0;
        in_table = firsts.1;
        on_shard = ap (λ (c : Call). c.shard) calls ∙ ap (λ (s : Setup). shard subject s.shards) ours;
        keyed = ap (λ (c : Call). key_held new (Some (c.table, reference))) (sym calls) ∙ made_keyed now subject given row told_so (ap (λ (c : Call). c.event) calls);
        looked = λ same_source. subst (Looked limit later given) (sym answered) tt;
      } in
      subst (λ e. HasTracked setup table limit key new later after e) itself tracked

  tracked_for : (now : ℕ) (wanted : Need) (given : Ticket) (row : Row) → reply ≡ replies.Tracked given row → need connection ≡ wanted → call_of connection.setup.shards now connection.progress.held wanted ≡ Some call
      → fits wanted (replies.Tracked given row) ≡ true → StaysTracked (heard connection call.shard (replies.Tracked given row))
  tracked_for now (needs.Track slot asked subject) given row told_so is asks_it fit = heard_tracked now slot asked subject given row told_so is asks_it
  tracked_for now (needs.Get asked subject) given row told_so is asks_it fit = absurd (false≢true fit)
  tracked_for now (needs.Look slot) given row told_so is asks_it fit = absurd (false≢true fit)
  tracked_for now (needs.Count slot act) given row told_so is asks_it fit = absurd (false≢true fit)
  tracked_for now (needs.Release slot) given row told_so is asks_it fit = absurd (false≢true fit)
  tracked_for now needs.Rest given row told_so is asks_it fit = absurd (false≢true fit)
  tracked_for now needs.Turn given row told_so is asks_it fit = absurd (false≢true fit)
  tracked_for now needs.Finished given row told_so is asks_it fit = absurd (false≢true fit)

  -- ---- a release

  without_slot : (slot : Slot) → StaysTracked (record connection { progress = record connection.progress { held = held_with connection.progress.held slot None; given = None } })
  without_slot Sc0 = λ entry at out. let none : None ≡ Some entry = at in cc
  without_slot Sc1 = keeps_all (record connection { progress = record connection.progress { held = held_with connection.progress.held Sc1 None; given = None } }) refl refl refl
  without_slot Sc2 = keeps_all (record connection { progress = record connection.progress { held = held_with connection.progress.held Sc2 None; given = None } }) refl refl refl

  given_back : (now : ℕ) (slot : Slot) (entry : Option (ℕ × Reference)) → held_at connection.progress.held slot ≡ entry → need connection ≡ needs.Release slot → call_by (λ ticket. events.Release now ticket) entry ≡ Some call
      → StaysTracked (heard connection call.shard replies.Released)
  given_back now slot None at is asks_it = cc
  given_back now slot (Some entry) at is asks_it = subst (λ (c : Connection Reference). StaysTracked c) (sym (released_as connection slot entry lived is at).0) (without_slot slot)

  released_for : (now : ℕ) (wanted : Need) → need connection ≡ wanted → call_of connection.setup.shards now connection.progress.held wanted ≡ Some call → fits wanted replies.Released ≡ true → StaysTracked (heard connection call.shard replies.Released)
  released_for now (needs.Release slot) is asks_it fit = given_back now slot (held_at connection.progress.held slot) refl is asks_it
  released_for now (needs.Track slot asked subject) is asks_it fit = absurd (false≢true fit)
  released_for now (needs.Get asked subject) is asks_it fit = absurd (false≢true fit)
  released_for now (needs.Look slot) is asks_it fit = absurd (false≢true fit)
  released_for now (needs.Count slot act) is asks_it fit = absurd (false≢true fit)
  released_for now needs.Rest is asks_it fit = absurd (false≢true fit)
  released_for now needs.Turn is asks_it fit = absurd (false≢true fit)
  released_for now needs.Finished is asks_it fit = absurd (false≢true fit)

  -- ---- whatever is replied

  pub heard_still : (now : ℕ) (wanted : Need) (answer : Reply) → reply ≡ answer → need connection ≡ wanted → call_of connection.setup.shards now connection.progress.held wanted ≡ Some call → fits wanted answer ≡ true
      → StaysTracked (heard connection call.shard answer)
  heard_still now wanted (replies.Tracked given row) told_so is asks_it fit = tracked_for now wanted given row told_so is asks_it fit
  heard_still now wanted replies.Released told_so is asks_it fit = released_for now wanted is asks_it fit
  heard_still now wanted (replies.Row row) told_so is asks_it fit = heard_row now wanted row told_so is asks_it
  heard_still now wanted replies.Absent told_so is asks_it fit = heard_other answers.Absent (λ row other. cc)
  heard_still now wanted replies.NoRefs told_so is asks_it fit = heard_other answers.Untracked (λ row other. cc)
  heard_still now wanted replies.Full told_so is asks_it fit = heard_other answers.Untracked (λ row other. cc)
  heard_still now wanted (replies.Value value) told_so is asks_it fit = heard_other (answers.Value value) (λ row other. cc)
  heard_still now wanted (replies.NotSettable datum) told_so is asks_it fit = heard_other answers.Untracked (λ row other. cc)
  heard_still now wanted (replies.NotStored datum) told_so is asks_it fit = heard_other answers.Untracked (λ row other. cc)
  heard_still now wanted (replies.Written created) told_so is asks_it fit = heard_other answers.Untracked (λ row other. cc)
  heard_still now wanted replies.InUse told_so is asks_it fit = heard_other answers.Untracked (λ row other. cc)
  heard_still now wanted replies.Removed told_so is asks_it fit = heard_other answers.Untracked (λ row other. cc)
  heard_still now wanted (replies.Cleared removed kept) told_so is asks_it fit = heard_other answers.Untracked (λ row other. cc)
  heard_still now wanted (replies.Rows used rows) told_so is asks_it fit = heard_other answers.Untracked (λ row other. cc)
  heard_still now wanted (replies.Expired count) told_so is asks_it fit = heard_other answers.Untracked (λ row other. cc)
