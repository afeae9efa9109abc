-- A connection whose references have no slots: it wants, asks and hears the same, but for the slots.
use Rattle.std.proofs.Common.{◌≡◌, ℕ, refl, sym, ap, ◌∙◌, Bool, true, cond, List, [], ◌∷◌, slice_get, Option, Some, None, is_some}
use Rattle.std.specs.Prelude.{option_map}
use Rattle.stick_model.specs.declared.events.Event.{Event}
use Rattle.stick_model.specs.declared.events.Event.TheVariants as events
use Rattle.stick_model.specs.declared.replies.Reply.{Reply}
use Rattle.stick_model.specs.declared.replies.Reply.TheVariants as replies
use Rattle.stick_model.specs.declared.rows.Ticket.{Ticket}
use Rattle.rule_model.specs.declared.actions.Slot.{Slot}
use Rattle.rule_model.specs.declared.actions.Slot.TheVariants.{Sc0, Sc1, Sc2}
use Rattle.rule_eval.specs.declared.wants.Answer.{Answer}
use Rattle.rule_eval.specs.declared.wants.Answer.TheVariants as answers
use Rattle.rule_eval.specs.declared.wants.Verdict.TheVariants.{Accept, Reject}
use Rattle.rule_eval.specs.declared.wants.Want.{Want}
use Rattle.rule_eval.specs.declared.wants.Want.TheVariants as wants
use Rattle.admit_core.specs.Connection.{Connection, Progress, asks, bytes_of, closing, counting, gave, gave_at, gave_of, heard as heard_by, held_after, judging, leaving, need, need_given, need_in, need_of, sessions, took, took_given, took_in, took_of}
use Rattle.admit_core.specs.Held.{held_at, held_with, holding}
use Rattle.admit_core.specs.declared.held.Held.{Held}
use Rattle.admit_core.specs.declared.need.Need.{Need}
use Rattle.admit_core.specs.declared.need.Need.TheVariants as needs
use Rattle.admit_core.specs.declared.need.Phase.{Phase}
use Rattle.admit_core.specs.declared.need.Phase.TheVariants.{New, Judging, Admitted, Rejected, Ended}
use Rattle.admit_drive.specs.Calls.{call_by, call_of, heard}
use Rattle.admit_port.specs.Calls.{Call}
use Rattle.shard_port.specs.declared.reference.Reference.{Reference}
use Rattle.admit_drive.proofs.PlainLemmas.{is_asked, plain_event, plain_reply, plain_ticket}

-- ---- without slots

abbrev pub plain_reference : Reference → Reference
plain_reference reference = record { shard = reference.shard; ticket = plain_ticket reference.ticket }

abbrev pub plain_entry : ℕ × Reference → ℕ × Reference
plain_entry entry = (entry.0, plain_reference entry.1)

abbrev pub plain_held : Held Reference → Held Reference
plain_held held = record { sc0 = option_map plain_entry held.sc0; sc1 = option_map plain_entry held.sc1; sc2 = option_map plain_entry held.sc2 }

abbrev pub plain_progress : Progress Reference → Progress Reference
plain_progress progress = record progress { held = plain_held progress.held }

abbrev pub plain_connection : Connection Reference → Connection Reference
plain_connection connection = record connection { progress = plain_progress connection.progress }

abbrev pub plain_call : Call → Call
plain_call call = record call { event = plain_event call.event }

-- ---- what is held

at_plain : (held : Held Reference) (slot : Slot) → held_at (plain_held held) slot ≡ option_map plain_entry (held_at held slot)
at_plain held Sc0 = refl
at_plain held Sc1 = refl
at_plain held Sc2 = refl

with_plain : (held : Held Reference) (slot : Slot) (entry : Option (ℕ × Reference)) → held_with (plain_held held) slot (option_map plain_entry entry) ≡ plain_held (held_with held slot entry)
with_plain held Sc0 entry = refl
with_plain held Sc1 entry = refl
with_plain held Sc2 entry = refl

some_plain : (o : Option (ℕ × Reference)) → is_some (option_map plain_entry o) ≡ is_some o
some_plain None = refl
some_plain (Some entry) = refl

-- the slots that hold something
abbrev held_slots : Bool → Bool → Bool → List Slot
held_slots a b c = cond a (Sc0 ∷ cond b (Sc1 ∷ cond c (Sc2 ∷ []) []) (cond c (Sc2 ∷ []) [])) (cond b (Sc1 ∷ cond c (Sc2 ∷ []) []) (cond c (Sc2 ∷ []) []))

holding_plain : (held : Held Reference) → holding (plain_held held) ≡ holding held
holding_plain held = (λ i. held_slots (some_plain held.sc0 i) (some_plain held.sc1 i) (some_plain held.sc2 i))

-- ---- what is wanted

judging_plain : (want : Want) (progress : Progress Reference) → judging want (plain_progress progress) ≡ judging want progress
judging_plain (wants.Get table key) progress = refl
judging_plain (wants.Track slot table key) progress = refl
judging_plain (wants.Look slot) progress = refl
judging_plain (wants.Count slot act) progress = refl
judging_plain (wants.Done Accept) progress = ap (λ slots. counting (slice_get (sessions slots) progress.counted) needs.Turn) (holding_plain progress.held)
judging_plain (wants.Done Reject) progress = refl

closing_plain : (bytes : Option (ℕ × ℕ)) (progress : Progress Reference) → closing bytes (plain_progress progress) ≡ closing bytes progress
closing_plain None progress = refl
closing_plain (Some bytes) progress = ap (λ slots. counting (slice_get (bytes_of bytes.0 bytes.1 slots) progress.counted) (leaving slots)) (holding_plain progress.held)

in_plain : (phase : Phase) (want : Want) (progress : Progress Reference) → need_in phase want (plain_progress progress) ≡ need_in phase want progress
in_plain New want progress = judging_plain want progress
in_plain Judging want progress = judging_plain want progress
in_plain Admitted want progress = closing_plain progress.bytes progress
in_plain Rejected want progress = ap leaving (holding_plain progress.held)
in_plain Ended want progress = refl

given_plain : (given : Option (Slot × ℕ)) (want : Want) (progress : Progress Reference) → need_given given want (plain_progress progress) ≡ need_given given want progress
given_plain None want progress = in_plain progress.phase want progress
given_plain (Some out) want progress = refl

pub need_plain : (connection : Connection Reference) → need (plain_connection connection) ≡ need connection
unfolding need_of
need_plain connection = given_plain connection.progress.given (asks connection) connection.progress

-- ---- what is asked

by_plain : (ask : Ticket → Event) (held : Option (ℕ × Reference)) → ((ticket : Ticket) → plain_event (ask ticket) ≡ ask (plain_ticket ticket)) → call_by ask (option_map plain_entry held) ≡ option_map plain_call (call_by ask held)
by_plain ask None same = refl
by_plain ask (Some entry) same = (λ i. Some (record { table = entry.0; shard = entry.1.shard; event = sym (same entry.1.ticket) i }))

pub call_plain : (shards now : ℕ) (held : Held Reference) (wanted : Need) → call_of shards now (plain_held held) wanted ≡ option_map plain_call (call_of shards now held wanted)
call_plain shards now held (needs.Get table key) = refl
call_plain shards now held (needs.Track slot table key) = refl
call_plain shards now held (needs.Look slot) = ap (call_by (λ ticket. events.Look now ticket)) (at_plain held slot) ∙ by_plain (λ ticket. events.Look now ticket) (held_at held slot) (λ ticket. refl)
call_plain shards now held (needs.Count slot act) = ap (call_by (λ ticket. events.Count now ticket act)) (at_plain held slot) ∙ by_plain (λ ticket. events.Count now ticket act) (held_at held slot) (λ ticket. refl)
call_plain shards now held (needs.Release slot) = ap (call_by (λ ticket. events.Release now ticket)) (at_plain held slot) ∙ by_plain (λ ticket. events.Release now ticket) (held_at held slot) (λ ticket. refl)
call_plain shards now held needs.Rest = refl
call_plain shards now held needs.Turn = refl
call_plain shards now held needs.Finished = refl

made_call : (a b : Call) → Some a ≡ Some b → a ≡ b
made_call a b e = cc

asked_by : (ask : Ticket → Event) (held : Option (ℕ × Reference)) (call : Call) → ((ticket : Ticket) → is_asked (ask ticket) ≡ true) → call_by ask held ≡ Some call → is_asked call.event ≡ true
asked_by ask None call asked is = cc
asked_by ask (Some entry) call asked is = ap (λ (c : Call). is_asked c.event) (sym (made_call (record { table = entry.0; shard = entry.1.shard; event = ask entry.1.ticket }) call is)) ∙ asked entry.1.ticket

pub call_asked : (shards now : ℕ) (held : Held Reference) (wanted : Need) (call : Call) → call_of shards now held wanted ≡ Some call → is_asked call.event ≡ true
call_asked shards now held (needs.Get table key) call is = ap (λ (c : Call). is_asked c.event) (sym (made_call _ call is))
call_asked shards now held (needs.Track slot table key) call is = ap (λ (c : Call). is_asked c.event) (sym (made_call _ call is))
call_asked shards now held (needs.Look slot) call is = asked_by (λ ticket. events.Look now ticket) (held_at held slot) call (λ ticket. refl) is
call_asked shards now held (needs.Count slot act) call is = asked_by (λ ticket. events.Count now ticket act) (held_at held slot) call (λ ticket. refl) is
call_asked shards now held (needs.Release slot) call is = asked_by (λ ticket. events.Release now ticket) (held_at held slot) call (λ ticket. refl) is
call_asked shards now held needs.Rest call is = cc
call_asked shards now held needs.Turn call is = cc
call_asked shards now held needs.Finished call is = cc

-- ---- what a reply makes of it

after_plain : (held : Held Reference) (want : Want) (reference : Option Reference) → held_after (plain_held held) want (option_map plain_reference reference) ≡ plain_held (held_after held want reference)
after_plain held (wants.Track slot table key) (Some reference) = with_plain held slot (Some (table, reference))
after_plain held (wants.Track slot table key) None = refl
after_plain held (wants.Get table key) reference = refl
after_plain held (wants.Look slot) reference = refl
after_plain held (wants.Count slot act) reference = refl
after_plain held (wants.Done verdict) reference = refl

heard_plain_by : (want : Want) (progress : Progress Reference) (reference : Option Reference) → heard_by want (plain_progress progress) (option_map plain_reference reference) ≡ plain_progress (heard_by want progress reference)
heard_plain_by (wants.Track slot table key) progress reference = ap (λ held. record progress { phase = Judging; held = held }) (after_plain progress.held (wants.Track slot table key) reference)
heard_plain_by (wants.Get table key) progress reference = refl
heard_plain_by (wants.Look slot) progress reference = refl
heard_plain_by (wants.Count slot act) progress reference = refl
heard_plain_by (wants.Done verdict) progress reference = refl

in_took : (phase : Phase) (want : Want) (progress : Progress Reference) (reference : Option Reference) → took_in phase want (plain_progress progress) (option_map plain_reference reference) ≡ plain_progress (took_in phase want progress reference)
in_took New want progress reference = heard_plain_by want progress reference
in_took Judging want progress reference = heard_plain_by want progress reference
in_took Admitted want progress reference = refl
in_took Rejected want progress reference = refl
in_took Ended want progress reference = refl

given_took : (given : Option (Slot × ℕ)) (want : Want) (progress : Progress Reference) (reference : Option Reference) → took_given given want (plain_progress progress) (option_map plain_reference reference) ≡ plain_progress (took_given given want progress reference)
given_took None want progress reference = in_took progress.phase want progress reference
given_took (Some out) want progress reference = refl

took_plain : (connection : Connection Reference) (answer : Answer) (reference : Option Reference) → took (plain_connection connection) answer (option_map plain_reference reference) ≡ plain_connection (took connection answer reference)
unfolding took_of
took_plain connection answer reference = ap (λ progress. record (took connection answer reference) { progress = progress }) (given_took connection.progress.given (asks connection) connection.progress reference)

at_gave : (slot : Slot) (entry : Option (ℕ × Reference)) (progress : Progress Reference) → gave_at slot (option_map plain_entry entry) (plain_progress progress) ≡ plain_progress (gave_at slot entry progress)
at_gave slot None progress = refl
at_gave slot (Some entry) progress = ap (λ held. record progress { held = held; given = Some (slot, entry.0) }) (with_plain progress.held slot None)

of_gave : (wanted : Need) (progress : Progress Reference) → gave_of wanted (plain_progress progress) ≡ plain_progress (gave_of wanted progress)
of_gave (needs.Release slot) progress = ap (λ o. gave_at slot o (plain_progress progress)) (at_plain progress.held slot) ∙ at_gave slot (held_at progress.held slot) progress
of_gave (needs.Get table key) progress = refl
of_gave (needs.Track slot table key) progress = refl
of_gave (needs.Look slot) progress = refl
of_gave (needs.Count slot act) progress = refl
of_gave needs.Rest progress = refl
of_gave needs.Turn progress = refl
of_gave needs.Finished progress = refl

gave_plain : (connection : Connection Reference) → gave (plain_connection connection) ≡ plain_connection (gave connection)
gave_plain connection =
    ap (λ wanted. record connection { progress = gave_of wanted (plain_progress connection.progress) }) (need_plain connection) ∙ ap (λ progress. record connection { progress = progress }) (of_gave (need connection) connection.progress)

pub heard_plain : (connection : Connection Reference) (shard : ℕ) (reply : Reply) → heard (plain_connection connection) shard (plain_reply reply) ≡ plain_connection (heard connection shard reply)
heard_plain connection shard replies.Released = ap (λ (c : Connection Reference). took c answers.Released None) (gave_plain connection) ∙ took_plain (gave connection) answers.Released None
heard_plain connection shard (replies.Tracked ticket row) = took_plain connection answers.Tracked (Some (record { shard = shard; ticket = ticket }))
heard_plain connection shard replies.Absent = took_plain connection answers.Absent None
heard_plain connection shard (replies.Row row) = took_plain connection (answers.Row row) None
heard_plain connection shard replies.NoRefs = took_plain connection answers.Untracked None
heard_plain connection shard replies.Full = took_plain connection answers.Untracked None
heard_plain connection shard (replies.Value value) = took_plain connection (answers.Value value) None
heard_plain connection shard (replies.NotSettable datum) = took_plain connection answers.Untracked None
heard_plain connection shard (replies.NotStored datum) = took_plain connection answers.Untracked None
heard_plain connection shard (replies.Written created) = took_plain connection answers.Untracked None
heard_plain connection shard replies.InUse = took_plain connection answers.Untracked None
heard_plain connection shard replies.Removed = took_plain connection answers.Untracked None
heard_plain connection shard (replies.Cleared removed kept) = took_plain connection answers.Untracked None
heard_plain connection shard (replies.Rows used rows) = took_plain connection answers.Untracked None
heard_plain connection shard (replies.Expired count) = took_plain connection answers.Untracked None
