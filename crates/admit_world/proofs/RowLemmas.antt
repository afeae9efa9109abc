-- Whatever the schedule, a row shows how many references of its key connections hold.
use Rattle.std.proofs.Common.{◌≡◌, ℕ, refl, sym, ap, subst, ◌∙◌, true, Option, Some, None}
use Rattle.std.specs.Prelude.{IfSome}
use Rattle.std.proofs.lemmas.Bool.{false≢true}
use Rattle.std.proofs.lemmas.Map.Entries.{All-lookup}
use Rattle.stick_key.specs.Shard.{shard}
use Rattle.stick_model.specs.Key.{Key}
use Rattle.stick_model.specs.Legal.{IsLegal}
use Rattle.stick_model.specs.State.{State, key_of, record_at, row, same_ticket}
use Rattle.stick_model.specs.Step.{Outcome, Step, begun, get}
use Rattle.stick_model.specs.declared.events.Event.TheVariants as events
use Rattle.stick_model.specs.declared.replies.Reply.{Reply}
use Rattle.stick_model.specs.declared.replies.Reply.TheVariants as replies
use Rattle.stick_model.specs.declared.rows.Row.{Row}
use Rattle.stick_model.specs.declared.rows.Ticket.{Ticket}
use Rattle.stick_model.proofs.StepCases.{of_option, of_reply}
use Rattle.admit_core.specs.Connection.{need}
use Rattle.admit_core.specs.Held.{held_at}
use Rattle.admit_core.specs.Shown.{is_reading}
use Rattle.admit_core.specs.declared.held.Held.{Held}
use Rattle.admit_core.specs.declared.need.Need.{Need}
use Rattle.admit_core.specs.declared.need.Need.TheVariants as needs
use Rattle.admit_core.proofs.ShownLemmas.{reading_law, row_law}
use Rattle.admit_drive.specs.Calls.{call_by, call_of, fits}
use Rattle.admit_world.specs.Shown.{AnsweredRowsLaw, RowsLaw}
use Rattle.admit_drive.specs.Tables.{shard_at}
use Rattle.admit_port.specs.Calls.{Call}
use Rattle.shard_port.specs.declared.reference.Reference.{Reference}
use Rattle.admit_drive.proofs.SumLemmas.{some_same}
use Rattle.admit_drive.proofs.CallLemmas.{legal_at}
use Rattle.admit_drive.specs.Laws.{IsHome}
use Rattle.admit_world.proofs.WorldHomeLemmas.{world_home}
use Rattle.admit_drive.proofs.ShardLemmas.{after_of, before_of, replaces, step_of}
use Rattle.admit_drive.proofs.ReplyLemmas.{reply_fits}
use Rattle.admit_world.proofs.ShownLemmas.{refs_are_held}

pub rows_law : RowsLaw
rows_law setup visits schedule world count table key live found opens is goes at stored there =
    let stand = world_home setup visits schedule world count opens is goes in
    row_law live key found (legal_at setup world.tables table (shard key setup.shards) live stand.0.tables at) stored there ∙ refs_are_held setup world table key live stand.0 stand.1 at

-- ---- which key a row is of

abbrev LiesOn : ℕ → ℕ → Reply → State → Type 0
LiesOn shards part (replies.Row shown) state = shard shown.key shards ≡ part
LiesOn shards part reply state = Unit {0}

got_lies : (shards part : ℕ) (state : State) (key : Key) → shard key shards ≡ part → LiesOn shards part (get state key).0 (get state key).1
got_lies shards part state key lies = of_reply (LiesOn shards part) (λ found. replies.Row (row state key found)) (record_at key state.records) replies.Absent state (λ found. lies) tt

get_lies : (shards now : ℕ) (key : Key) (old : State) (shown : Row) (new : State) → Step old (events.Get now key) (replies.Row shown) new → shard shown.key shards ≡ shard key shards
get_lies shards now key old shown new step = subst (λ (o : Outcome). LiesOn shards (shard key shards) o.0 o.1) step.gives (got_lies shards (shard key shards) (begun old now) key refl)

look_lies : (shards part now : ℕ) (ticket : Ticket) (old : State) (shown : Row) (new : State) → IsHome shards part old.tickets → Step old (events.Look now ticket) (replies.Row shown) new → shard shown.key shards ≡ part
look_lies shards part now ticket old shown new home step =
    subst (λ (o : Outcome). LiesOn shards part o.0 o.1) step.gives
    (of_option (LiesOn shards part) (get (begun old now)) (key_of ticket old.tickets) (replies.Absent, begun old now) (λ key at. got_lies shards part (begun old now) key (lies key at)) (λ none. tt))
  where
    lies : (key : Key) → key_of ticket old.tickets ≡ Some key → shard key shards ≡ part
    lies key at =
        let all : IfSome (key_of ticket old.tickets) (λ (k : Key). shard k shards ≡ part) = All-lookup (λ (k : Key). shard k shards ≡ part) (same_ticket ticket) old.tickets home in
        subst (λ o. IfSome o (λ (k : Key). shard k shards ≡ part)) at all

-- what is read is of a key that lies on the shard that is asked
abbrev ReadsHome : ℕ → Call → Row → Type 0
ReadsHome shards call shown = (is_reading call.event ≡ true) × (shard shown.key shards ≡ call.shard)

by_reference : (shards now : ℕ) (held : Option (ℕ × Reference)) (call : Call) (old : State) (shown : Row) (new : State) → call_by (λ ticket. events.Look now ticket) held ≡ Some call → IsHome shards call.shard old.tickets → Step old call.event (replies.Row shown) new → ReadsHome shards call shown
by_reference shards now None call old shown new is home step = cc
by_reference shards now (Some entry) call old shown new is home step =
    let made : Call = record { table = entry.0; shard = entry.1.shard; event = events.Look now entry.1.ticket } in
    let same : made ≡ call = some_same made call is in
    subst (λ (c : Call). IsHome shards c.shard old.tickets → Step old c.event (replies.Row shown) new → ReadsHome shards c shown) same
    (λ home step. (refl, look_lies shards entry.1.shard now entry.1.ticket old shown new home step)) home step

reads_home : (shards now : ℕ) (held : Held Reference) (wanted : Need) (call : Call) (old : State) (shown : Row) (new : State) → call_of shards now held wanted ≡ Some call → fits wanted (replies.Row shown) ≡ true → IsHome shards call.shard old.tickets
    → Step old call.event (replies.Row shown) new → ReadsHome shards call shown
reads_home shards now held (needs.Get table key) call old shown new is fit home step =
    let made : Call = record { table = table; shard = shard key shards; event = events.Get now key } in
    let same : made ≡ call = some_same made call is in
    subst (λ (c : Call). Step old c.event (replies.Row shown) new → ReadsHome shards c shown) same (λ step. (refl, get_lies shards now key old shown new step)) step
reads_home shards now held (needs.Look slot) call old shown new is fit home step = by_reference shards now (held_at held slot) call old shown new is home step
reads_home shards now held (needs.Track slot table key) call old shown new is fit home step = absurd (false≢true fit)
reads_home shards now held (needs.Count slot act) call old shown new is fit home step = absurd (false≢true fit)
reads_home shards now held (needs.Release slot) call old shown new is fit home step = absurd (false≢true fit)
reads_home shards now held needs.Rest call old shown new is fit home step = absurd (false≢true fit)
reads_home shards now held needs.Turn call old shown new is fit home step = absurd (false≢true fit)
reads_home shards now held needs.Finished call old shown new is fit home step = absurd (false≢true fit)

pub answered_rows_law : AnsweredRowsLaw
answered_rows_law setup visits schedule world count i now connection call live shown new opens is goes there asks_it at stored answers_it =
    let stand = world_home setup visits schedule world count opens is goes in
    let legal : IsLegal live = legal_at setup world.tables call.table call.shard live stand.0.tables at in
    let same : before_of answers_it ≡ live = some_same (before_of answers_it) live (sym (replaces world.tables new call (replies.Row shown) answers_it).was ∙ at) in
    let step : Step live call.event (replies.Row shown) (after_of answers_it) = subst (λ (s : State). Step s call.event (replies.Row shown) (after_of answers_it)) same (step_of answers_it) in
    let fit : fits (need connection) (replies.Row shown) ≡ true = reply_fits setup.shards now connection.progress.held (need connection) call live (after_of answers_it) (replies.Row shown) asks_it legal step in
    let reads : ReadsHome setup.shards call shown = reads_home setup.shards now connection.progress.held (need connection) call live shown (after_of answers_it) asks_it fit (stand.1 call.table call.shard live at) step in
    reading_law live call.event shown (after_of answers_it) legal stored reads.0 step ∙ refs_are_held setup world call.table shown.key live stand.0 stand.1 (ap (shard_at world.tables call.table) reads.1 ∙ at)
