-- What an answer makes of a connection.
use Rattle.std.proofs.Common.{◌≡◌, ◌∙◌, ℕ, ◌/◌, true, false, [], ◌∷◌, ◌++◌, append-nil, slice_get, Option, Some, None, refl, sym, ap}
use Rattle.std.specs.Prelude.{is_none}
use Rattle.rule_model.specs.declared.actions.Slot.{Slot}
use Rattle.rule_model.specs.declared.actions.Slot.TheVariants.{Sc0, Sc1, Sc2}
use Rattle.rule_eval.specs.Asked.{asked_by}
use Rattle.rule_eval.specs.Eval.{Stands as EvalStands}
use Rattle.rule_eval.specs.Left.{is_done}
use Rattle.rule_eval.specs.Slots.{with_slot}
use Rattle.rule_eval.specs.Verdict.{next, slots_after}
use Rattle.rule_eval.specs.declared.slots.Slots.{Slots}
use Rattle.rule_eval.specs.declared.wants.Answer.{Answer}
use Rattle.rule_eval.specs.declared.wants.Answer.TheVariants as answers
use Rattle.rule_eval.specs.declared.wants.Asked.{Asked}
use Rattle.rule_eval.specs.declared.wants.Asked.TheVariants.{Decided}
use Rattle.rule_eval.specs.declared.wants.Verdict.{Verdict}
use Rattle.rule_eval.specs.declared.wants.Want.{Want}
use Rattle.rule_eval.specs.declared.wants.Want.TheVariants.{Get, Track, Look, Count, Done}
use Rattle.admit_core.specs.Conn.{Judges, Stands, progress_of, wanted}
use Rattle.admit_core.specs.Connection.{Connection, Progress, answers_need, asks, closing, counting, is_asking, is_judged, judging, leaving, need_given, need_in, need_of, took, took_of}
use Rattle.admit_core.specs.Held.{held_with, holding, is_free_for, tables_of}
use Rattle.admit_core.specs.Receiving.{received}
use Rattle.admit_core.specs.declared.conn.Conn.{Conn}
use Rattle.admit_core.specs.declared.held.Held.{Held}
use Rattle.admit_core.specs.declared.need.Need.TheVariants as needs
use Rattle.admit_core.specs.declared.need.Phase.{Phase}
use Rattle.admit_core.specs.declared.need.Phase.TheVariants.{New, Judging, Admitted, Rejected, Ended}
use Rattle.admit_core.proofs.HeldLemmas.{byte_act, bytes_at, bytes_none}

-- ---- bytes

pub closing_at : {R : Type 0} (progress : Progress R) (i o : ℕ) (slot : Slot) → progress.bytes ≡ Some (i, o) → slice_get (holding progress.held) (progress.counted / 2) ≡ Some slot
    → closing progress.bytes progress ≡ needs.Count slot (byte_act i o progress.counted)
closing_at progress i o slot bytes here =
    ap (λ b. closing b progress) bytes ∙ ap (λ e. counting e (leaving (holding progress.held))) (bytes_at i o (holding progress.held) progress.counted slot here)

pub closing_none : {R : Type 0} (progress : Progress R) (i o : ℕ) → progress.bytes ≡ Some (i, o) → slice_get (holding progress.held) (progress.counted / 2) ≡ None
    → closing progress.bytes progress ≡ leaving (holding progress.held)
closing_none progress i o bytes none =
    ap (λ b. closing b progress) bytes ∙ ap (λ e. counting e (leaving (holding progress.held))) (bytes_none i o (holding progress.held) progress.counted none)

-- ---- references

pub none_given : {X : Type 0} (given : Option X) → is_none given ≡ true → given ≡ None
none_given None h = refl
none_given (Some x) h = cc

pub free_for_none : {R : Type 0} (held : Held R) (given : Option (Slot × ℕ)) → is_none given ≡ true → is_free_for held given ≡ true
free_for_none held None h = refl
free_for_none held (Some out) h = cc

tables-with : {R : Type 0} (held : Held R) (slot : Slot) (table : ℕ) (reference : R) → tables_of (held_with held slot (Some (table, reference))) ≡ with_slot (tables_of held) slot table
unfolding tables_of
tables-with held Sc0 table reference = refl
tables-with held Sc1 table reference = refl
tables-with held Sc2 table reference = refl

-- the tables of what is held are those that the rules track, after an answer too
pub received_tables : {R : Type 0} (held : Held R) (want : Want) (progress : Progress R) (answer : Answer) (reference : Option R) → is_done want ≡ false → answers_need (judging want progress) answer reference ≡ true
    → tables_of (received held (asked_by want) reference) ≡ slots_after (tables_of held) want answer
received_tables held (Get table key) progress answer reference asks fits = refl
received_tables held (Look slot) progress answer reference asks fits = refl
received_tables held (Count slot act) progress answer reference asks fits = refl
received_tables held (Done verdict) progress answer reference asks fits = cc
received_tables held (Track slot table key) progress answers.Tracked (Some r) asks fits = tables-with held slot table r
received_tables held (Track slot table key) progress answers.Tracked None asks fits = cc
received_tables held (Track slot table key) progress answers.Untracked (Some r) asks fits = cc
received_tables held (Track slot table key) progress answers.Untracked None asks fits = refl
received_tables held (Track slot table key) progress answers.Absent reference asks fits = cc
received_tables held (Track slot table key) progress (answers.Row row) reference asks fits = cc
received_tables held (Track slot table key) progress (answers.Value value) reference asks fits = cc
received_tables held (Track slot table key) progress answers.Released reference asks fits = cc

-- an answer to the rules
heard_in : {R : Type 0} (want : Want) (progress : Progress R) (reference : Option R) (phase : Phase) → progress.phase ≡ phase → is_judged phase ≡ true → is_done want ≡ false → progress.given ≡ None
    → record progress { phase = Judging; held = received progress.held (asked_by want) reference } ≡ took_of want progress reference
unfolding took_of
heard_in (Get table key) progress reference New at judged asks none = rw (none, at) refl
heard_in (Get table key) progress reference Judging at judged asks none = rw (none, at) refl
heard_in (Look slot) progress reference New at judged asks none = rw (none, at) refl
heard_in (Look slot) progress reference Judging at judged asks none = rw (none, at) refl
heard_in (Count slot act) progress reference New at judged asks none = rw (none, at) refl
heard_in (Count slot act) progress reference Judging at judged asks none = rw (none, at) refl
heard_in (Track slot table key) progress None New at judged asks none = rw (none, at) refl
heard_in (Track slot table key) progress None Judging at judged asks none = rw (none, at) refl
heard_in (Track slot table key) progress (Some r) New at judged asks none = rw (none, at) refl
heard_in (Track slot table key) progress (Some r) Judging at judged asks none = rw (none, at) refl
heard_in (Done verdict) progress reference phase at judged asks none = cc
heard_in want progress reference Admitted at judged asks none = cc
heard_in want progress reference Rejected at judged asks none = cc
heard_in want progress reference Ended at judged asks none = cc

pub heard_is : {R : Type 0} (want : Want) (progress : Progress R) (asked : Asked) (reference : Option R) (held : Held R) → is_judged progress.phase ≡ true → is_done want ≡ false → is_none progress.given ≡ true → asked ≡ asked_by want
    → held ≡ received progress.held asked reference → record progress { phase = Judging; held = held } ≡ took_of want progress reference
heard_is want progress asked reference held judged asks none is new =
    ap (λ h. record progress { phase = Judging; held = h }) (new ∙ ap (λ a. received progress.held a reference) is)
    ∙ heard_in want progress reference progress.phase refl judged asks (none_given progress.given none)

-- what the rules want while it is judged
pub judged_need : {R : Type 0} (want : Want) (progress : Progress R) → is_none progress.given ≡ true → is_judged progress.phase ≡ true → need_of want progress ≡ judging want progress
unfolding need_of
judged_need want progress none judged = ap (λ given. need_given given want progress) (none_given progress.given none) ∙ in_phase progress.phase refl judged
  where
    in_phase : (phase : Phase) → progress.phase ≡ phase → is_judged phase ≡ true → need_in progress.phase want progress ≡ judging want progress
    in_phase New at judged = ap (λ p. need_in p want progress) at
    in_phase Judging at judged = ap (λ p. need_in p want progress) at
    in_phase Admitted at judged = cc
    in_phase Rejected at judged = cc
    in_phase Ended at judged = cc

pub not_decided : (want : Want) (asked : Asked) → asked ≡ asked_by want → ((verdict : Verdict) → asked ≡ Decided verdict → ⊥) → is_done want ≡ false
not_decided (Done verdict) asked is other = absurd (other verdict is)
not_decided (Get table key) asked is other = refl
not_decided (Track slot table key) asked is other = refl
not_decided (Look slot) asked is other = refl
not_decided (Count slot act) asked is other = refl

-- what the tables of what is held are after an answer to the rules
pub received_same : {R : Type 0} (want : Want) (progress : Progress R) (asked : Asked) (answer : Answer) (reference : Option R) (held : Held R) (slots later : Slots)
    → is_none progress.given ≡ true → is_judged progress.phase ≡ true → is_done want ≡ false → answers_need (need_of want progress) answer reference ≡ true → asked ≡ asked_by want
    → tables_of progress.held ≡ slots → held ≡ received progress.held asked reference → later ≡ slots_after slots want answer → tables_of held ≡ later
received_same want progress asked answer reference held slots later none judged asks fits is same new after =
    let fits_here : answers_need (judging want progress) answer reference ≡ true = ap (λ n. answers_need n answer reference) (sym (judged_need want progress none judged)) ∙ fits in
    ap tables_of (new ∙ ap (λ a. received progress.held a reference) is)
    ∙ received_tables progress.held want progress answer reference asks fits_here
    ∙ ap (λ s. slots_after s want answer) same
    ∙ sym after

-- ---- what it stands for

pub wanted_asks : {R : Type 0} (conn : Conn R) (connection : Connection R) → Stands conn connection → wanted conn ≡ asks connection
unfolding wanted Judges
wanted_asks conn connection stands = stands.judges.course [] ∙ ap (next connection.setup connection.samples) (append-nil connection.answers)

pub stands_heard : {R : Type 0} (old new : Conn R) (connection : Connection R) (answer : Answer) (reference : Option R) → Stands old connection → EvalStands new.eval connection.setup connection.samples (connection.answers ++ answer ∷ [])
    → is_asking (wanted old) (progress_of old) ≡ true → progress_of new ≡ took_of (wanted old) (progress_of old) reference → Stands new (took connection answer reference)
unfolding Judges
stands_heard old new connection answer reference stands heard asking progress =
    let same : wanted old ≡ asks connection = wanted_asks old connection stands in
    let asks_too : is_asking (asks connection) connection.progress ≡ true = ap (λ w. is_asking w connection.progress) (sym same) ∙ ap (is_asking (wanted old)) (sym stands.progress) ∙ asking in
    record {
      judges = rw asks_too heard;
      progress = progress ∙ ap (λ w. took_of w (progress_of old) reference) same ∙ ap (λ p. took_of (asks connection) p reference) stands.progress;
    }
