-- What the replies of a shard tell.
use Rattle.std.proofs.Common.{◌≡◌, ℕ, refl, sym, subst, true, nat_le, length, Option, Some, None, is_some}
use Rattle.std.proofs.lemmas.Bool.{false≢true}
use Rattle.stored_data.specs.declared.act.Act.{Act}
use Rattle.stick_model.specs.Key.{Key}
use Rattle.stick_model.specs.Laws.{IsAnsweredFrom}
use Rattle.stick_model.specs.Legal.{IsLegal}
use Rattle.stick_model.specs.State.{State, key_of, record_at, row}
use Rattle.stick_model.specs.Step.{Outcome, Step, begun, connected, tracked, ticket_of}
use Rattle.stick_model.specs.Room.{stored_in}
use Rattle.stick_model.specs.declared.events.Event.{Event}
use Rattle.stick_model.specs.declared.events.Event.TheVariants as events
use Rattle.stick_model.specs.declared.replies.Reply.{Reply}
use Rattle.stick_model.specs.declared.replies.Reply.TheVariants as replies
use Rattle.stick_model.specs.declared.rows.Record.{Record}
use Rattle.stick_model.specs.declared.rows.Ticket.{Ticket}
use Rattle.stick_model.proofs.ReferenceLemmas.{reference-law}
use Rattle.stick_model.proofs.StepCases.{of_mapped, of_reply, of_test}
use Rattle.shard_port.specs.Books.{IsLegalStep, is_of_count, is_of_get, is_of_look}
use Rattle.shard_port.specs.Port.{is_tracking}

get_fits : (old : State) (now : ℕ) (key : Key) (reply : Reply) (new : State) → Step old (events.Get now key) reply new → is_of_get reply ≡ true
get_fits old now key reply new step =
    let Q : Reply → State → Type 0 = λ r s. is_of_get r ≡ true in
    subst (λ (o : Outcome). Q o.0 o.1) step.gives (of_reply Q (λ found. replies.Row (row (begun old now) key found)) (record_at key (begun old now).records) replies.Absent (begun old now) (λ found. refl) refl)

track_fits : (old : State) (now : ℕ) (key : Key) (reply : Reply) (new : State) → Step old (events.Track now key) reply new → is_tracking reply ≡ true
track_fits old now key reply new step =
    let Q : Reply → State → Type 0 = λ r s. is_tracking r ≡ true in
    let state : State = begun old now in
    let kept : Record = connected state key in
    subst (λ (o : Outcome). Q o.0 o.1) step.gives
    (of_test Q (nat_le state.spec.max_refs (length state.tickets)) (replies.NoRefs, state) _ (λ _. refl)
    (λ _. of_mapped Q (λ rs. record state { records = rs }) (tracked state key kept _) (stored_in state.spec state.tickets state.records key kept) (replies.Full, state) (λ rs is. refl) refl))

-- an event of a ticket that is out is answered from its entry
answered_from : (old : State) (event : Event) (reply : Reply) (new : State) (ticket : Ticket) → IsLegal old → Step old event reply new → ticket_of event ≡ Some ticket → is_some (key_of ticket old.tickets) ≡ true
    → (key : Key) × IsAnsweredFrom old key event reply
answered_from old event reply new ticket legal step names out = keyed (key_of ticket old.tickets) refl out
  where
    keyed : (o : Option Key) → key_of ticket old.tickets ≡ o → is_some o ≡ true → (key : Key) × IsAnsweredFrom old key event reply
    keyed None is out = absurd (false≢true out)
    keyed (Some key) is out = (key, reference-law old event reply new ticket key legal step names is)

look_fits : (old : State) (now : ℕ) (ticket : Ticket) (reply : Reply) (new : State) → IsLegal old → Step old (events.Look now ticket) reply new → is_of_look reply ≡ true
look_fits old now ticket reply new legal step =
    let from = answered_from old (events.Look now ticket) reply new ticket legal step refl step.out in
    subst (λ r. is_of_look r ≡ true) (sym from.1.answered) refl

count_fits : (old : State) (now : ℕ) (ticket : Ticket) (act : Act) (reply : Reply) (new : State) → IsLegal old → Step old (events.Count now ticket act) reply new → is_of_count reply ≡ true
count_fits old now ticket act reply new legal step =
    let from = answered_from old (events.Count now ticket act) reply new ticket legal step refl step.out in
    subst (λ r. is_of_count r ≡ true) (sym from.1.answered) refl

release_fits : (old : State) (now : ℕ) (ticket : Ticket) (reply : Reply) (new : State) → IsLegal old → Step old (events.Release now ticket) reply new → reply ≡ replies.Released
release_fits old now ticket reply new legal step =
    let from = answered_from old (events.Release now ticket) reply new ticket legal step refl step.out in
    from.1.answered

-- of a step that is known to be from a legal state
pub got : (now : ℕ) (key : Key) (reply : Reply) → IsLegalStep (events.Get now key) reply → is_of_get reply ≡ true
got now key reply is = get_fits is.before now key reply is.after is.step

pub tracks : (now : ℕ) (key : Key) (reply : Reply) → IsLegalStep (events.Track now key) reply → is_tracking reply ≡ true
tracks now key reply is = track_fits is.before now key reply is.after is.step

pub looked : (now : ℕ) (ticket : Ticket) (reply : Reply) → IsLegalStep (events.Look now ticket) reply → is_of_look reply ≡ true
looked now ticket reply is = look_fits is.before now ticket reply is.after is.legal is.step

pub counted : (now : ℕ) (ticket : Ticket) (act : Act) (reply : Reply) → IsLegalStep (events.Count now ticket act) reply → is_of_count reply ≡ true
counted now ticket act reply is = count_fits is.before now ticket act reply is.after is.legal is.step

pub released : (now : ℕ) (ticket : Ticket) (reply : Reply) → IsLegalStep (events.Release now ticket) reply → reply ≡ replies.Released
released now ticket reply is = release_fits is.before now ticket reply is.after is.legal is.step
