-- What a shard replies fits what was wanted.
use Rattle.std.proofs.Common.{◌≡◌, ℕ, refl, sym, subst, true, nat_le, length, Option, Some, None, is_some}
use Rattle.std.proofs.lemmas.Bool.{false≢true}
use Rattle.stored_data.specs.declared.act.Act.{Act}
use Rattle.rule_model.specs.declared.actions.Slot.{Slot}
use Rattle.stick_model.specs.Key.{Key}
use Rattle.stick_model.specs.Laws.{IsAnsweredFrom}
use Rattle.stick_model.specs.Legal.{IsLegal}
use Rattle.stick_model.specs.State.{State, key_of, record_at, row}
use Rattle.stick_model.specs.Step.{Outcome, Step, begun, connected, tracked, ticket_of}
use Rattle.stick_model.specs.Room.{stored_in}
use Rattle.stick_model.specs.declared.events.Event.{Event}
use Rattle.stick_model.specs.declared.events.Event.TheVariants as events
use Rattle.stick_model.specs.declared.replies.Reply.{Reply}
use Rattle.stick_model.specs.declared.replies.Reply.TheVariants as replies
use Rattle.stick_model.specs.declared.rows.Record.{Record}
use Rattle.stick_model.specs.declared.rows.Ticket.{Ticket}
use Rattle.stick_model.proofs.ReferenceLemmas.{reference-law}
use Rattle.stick_model.proofs.StepCases.{of_mapped, of_reply, of_test}
use Rattle.admit_core.specs.Held.{held_at}
use Rattle.admit_core.specs.declared.held.Held.{Held}
use Rattle.admit_core.specs.declared.need.Need.{Need}
use Rattle.admit_core.specs.declared.need.Need.TheVariants as needs
use Rattle.admit_drive.specs.Calls.{call_by, call_of, fits}
use Rattle.admit_port.specs.Calls.{Call}
use Rattle.shard_port.specs.declared.reference.Reference.{Reference}

get_fits : (old : State) (now table : ℕ) (key : Key) (reply : Reply) (new : State) → Step old (events.Get now key) reply new → fits (needs.Get table key) reply ≡ true
get_fits old now table key reply new step =
    let Q : Reply → State → Type 0 = λ r s. fits (needs.Get table key) r ≡ true in
    subst (λ (o : Outcome). Q o.0 o.1) step.gives (of_reply Q (λ found. replies.Row (row (begun old now) key found)) (record_at key (begun old now).records) replies.Absent (begun old now) (λ found. refl) refl)

track_fits : (old : State) (now table slot : ℕ) (by : Slot) (key : Key) (reply : Reply) (new : State) → Step old (events.Track now key) reply new → fits (needs.Track by table key) reply ≡ true
track_fits old now table slot by key reply new step =
    let Q : Reply → State → Type 0 = λ r s. fits (needs.Track by table key) r ≡ true in
    let state : State = begun old now in
    let kept : Record = connected state key in
    subst (λ (o : Outcome). Q o.0 o.1) step.gives
    (of_test Q (nat_le state.spec.max_refs (length state.tickets)) (replies.NoRefs, state) _ (λ _. refl)
    (λ _. of_mapped Q (λ rs. record state { records = rs }) (tracked state key kept _) (stored_in state.spec state.tickets state.records key kept) (replies.Full, state) (λ rs is. refl) refl))

-- an event of a ticket that is out is answered from its entry
answered_from : (old : State) (event : Event) (reply : Reply) (new : State) (ticket : Ticket) → IsLegal old → Step old event reply new → ticket_of event ≡ Some ticket → is_some (key_of ticket old.tickets) ≡ true
    → (key : Key) × IsAnsweredFrom old key event reply
answered_from old event reply new ticket legal step names out = keyed (key_of ticket old.tickets) refl out
  where
    keyed : (o : Option Key) → key_of ticket old.tickets ≡ o → is_some o ≡ true → (key : Key) × IsAnsweredFrom old key event reply
    keyed None is out = absurd (false≢true out)
    keyed (Some key) is out = (key, reference-law old event reply new ticket key legal step names is)

look_fits : (old : State) (now : ℕ) (ticket : Ticket) (slot : Slot) (reply : Reply) (new : State) → IsLegal old → Step old (events.Look now ticket) reply new → fits (needs.Look slot) reply ≡ true
look_fits old now ticket slot reply new legal step =
    let from = answered_from old (events.Look now ticket) reply new ticket legal step refl step.out in
    subst (λ r. fits (needs.Look slot) r ≡ true) (sym from.1.answered) refl

count_fits : (old : State) (now : ℕ) (ticket : Ticket) (act : Act) (slot : Slot) (reply : Reply) (new : State) → IsLegal old → Step old (events.Count now ticket act) reply new → fits (needs.Count slot act) reply ≡ true
count_fits old now ticket act slot reply new legal step =
    let from = answered_from old (events.Count now ticket act) reply new ticket legal step refl step.out in
    subst (λ r. fits (needs.Count slot act) r ≡ true) (sym from.1.answered) refl

release_fits : (old : State) (now : ℕ) (ticket : Ticket) (slot : Slot) (reply : Reply) (new : State) → IsLegal old → Step old (events.Release now ticket) reply new → fits (needs.Release slot) reply ≡ true
release_fits old now ticket slot reply new legal step =
    let from = answered_from old (events.Release now ticket) reply new ticket legal step refl step.out in
    subst (λ r. fits (needs.Release slot) r ≡ true) (sym from.1.answered) refl

-- of what a need asks
same_call : (a b : Call) → Some a ≡ Some b → a ≡ b
same_call a b e = cc

by_fits : (wanted : Need) (ask : Ticket → Event) (held : Option (ℕ × Reference)) (call : Call) (old new : State) (reply : Reply) → call_by ask held ≡ Some call
    → ((ticket : Ticket) → Step old (ask ticket) reply new → fits wanted reply ≡ true) → Step old call.event reply new → fits wanted reply ≡ true
by_fits wanted ask None call old new reply is then step = cc
by_fits wanted ask (Some entry) call old new reply is then step =
    then entry.1.ticket (subst (λ (c : Call). Step old c.event reply new) (sym (same_call (record { table = entry.0; shard = entry.1.shard; event = ask entry.1.ticket }) call is)) step)

pub reply_fits : (shards now : ℕ) (held : Held Reference) (wanted : Need) (call : Call) (old new : State) (reply : Reply) → call_of shards now held wanted ≡ Some call → IsLegal old → Step old call.event reply new → fits wanted reply ≡ true
reply_fits shards now held (needs.Get table key) call old new reply is legal step =
    get_fits old now table key reply new (subst (λ (c : Call). Step old c.event reply new) (sym (same_call _ call is)) step)
reply_fits shards now held (needs.Track slot table key) call old new reply is legal step =
    track_fits old now table 0 slot key reply new (subst (λ (c : Call). Step old c.event reply new) (sym (same_call _ call is)) step)
reply_fits shards now held (needs.Look slot) call old new reply is legal step =
    by_fits (needs.Look slot) (λ ticket. events.Look now ticket) (held_at held slot) call old new reply is (λ ticket s. look_fits old now ticket slot reply new legal s) step
reply_fits shards now held (needs.Count slot act) call old new reply is legal step =
    by_fits (needs.Count slot act) (λ ticket. events.Count now ticket act) (held_at held slot) call old new reply is (λ ticket s. count_fits old now ticket act slot reply new legal s) step
reply_fits shards now held (needs.Release slot) call old new reply is legal step =
    by_fits (needs.Release slot) (λ ticket. events.Release now ticket) (held_at held slot) call old new reply is (λ ticket s. release_fits old now ticket slot reply new legal s) step
reply_fits shards now held needs.Rest call old new reply is legal step = cc
reply_fits shards now held needs.Turn call old new reply is legal step = cc
reply_fits shards now held needs.Finished call old new reply is legal step = cc
