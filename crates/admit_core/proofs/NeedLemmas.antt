-- What a need names is there.
use Rattle.std.proofs.Common.{◌≡◌, ◌∙◌, ℕ, zero, suc, Bool, true, false, not, cond, is_some, List, [], ◌∷◌, filter, slice_get, Option, Some, None, refl, sym, ap, subst}
use Rattle.std.proofs.lemmas.Bool.{false≢true}
use Rattle.std.specs.List.{AllByRecursion}
use Rattle.std.specs.Prelude.{Result, Ok, Err, IfOk}
use Rattle.stored_data.specs.declared.act.Act.{Act}
use Rattle.rule_model.specs.declared.actions.Slot.{Slot}
use Rattle.rule_model.specs.declared.actions.Slot.TheVariants.{Sc0, Sc1, Sc2}
use Rattle.rule_model.specs.declared.sections.Setup.{Setup}
use Rattle.rule_eval.specs.Eval.{remaining, setup_of}
use Rattle.rule_eval.specs.Left.{is_done}
use Rattle.rule_eval.specs.Slots.{slot_of}
use Rattle.rule_eval.specs.Tracking.{is_free, is_tracking, names_table}
use Rattle.rule_eval.specs.declared.wants.Verdict.TheVariants.{Accept, Reject}
use Rattle.rule_eval.specs.declared.wants.Want.{Want}
use Rattle.rule_eval.specs.declared.wants.Want.TheVariants.{Get, Track, Look, Count, Done}
use Rattle.rule_eval.proofs.Ready.{eval_free, eval_names, eval_tracking}
use Rattle.admit_core.specs.Conn.{judged_by, needed, progress_of, wanted}
use Rattle.admit_core.specs.Connection.{Progress, bytes_of, closing, counting, is_judged, judging, leaving, need_given, need_in, need_of, sessions, wants_held}
use Rattle.admit_core.specs.Held.{held_at, holding, table_of, tables_of}
use Rattle.admit_core.specs.Naming.{names_held, names_table_of}
use Rattle.admit_core.specs.declared.conn.Conn.{Conn}
use Rattle.admit_core.specs.declared.held.Held.{Held}
use Rattle.admit_core.specs.declared.need.Need.{Need}
use Rattle.admit_core.specs.declared.need.Need.TheVariants as needs
use Rattle.admit_core.specs.declared.need.Phase.{Phase}
use Rattle.admit_core.specs.declared.need.Phase.TheVariants.{New, Judging, Admitted, Rejected, Ended}

pub of_needed : {E : Type 0} (P : Need → Type 0) (result : Result Need E) (need : Need) → IfOk result (λ wanted. wanted ≡ need) → P need → IfOk result P
of_needed P (Ok wanted) need is h = subst P (sym is) h
of_needed P (Err e) need is h = tt

-- ---- slots that hold a reference

abbrev Holds : {R : Type 0} → Held R → Slot → Type 0
Holds held slot = is_some (held_at held slot) ≡ true

filter_keeps : (p : Slot → Bool) (slots : List Slot) → AllByRecursion (λ slot. p slot ≡ true) (filter p slots)
filter_keeps p [] = tt
filter_keeps p (slot ∷ more) =
    elim (p slot) as (λ b. p slot ≡ b → AllByRecursion (λ s. p s ≡ true) (cond b (slot ∷ filter p more) (filter p more))) [
      | true ↦ λ e. (e, filter_keeps p more)
      | false ↦ λ e. filter_keeps p more
    ] refl

holding_holds : {R : Type 0} (held : Held R) → AllByRecursion (Holds held) (holding held)
holding_holds held = filter_keeps (λ slot. is_some (held_at held slot)) (Sc0 ∷ Sc1 ∷ Sc2 ∷ [])

-- an act is counted in such a slot
abbrev InHeld : {R : Type 0} → Held R → Option (Slot × Act) → Type 0
InHeld held None = Unit {0}
InHeld held (Some entry) = Holds held entry.0

sessions_in : {R : Type 0} (held : Held R) (slots : List Slot) (n : ℕ) → AllByRecursion (Holds held) slots → InHeld held (slice_get (sessions slots) n)
sessions_in held [] n all = tt
sessions_in held (slot ∷ more) zero all = all.0
sessions_in held (slot ∷ more) (suc n) all = sessions_in held more n all.1

bytes_in : {R : Type 0} (held : Held R) (i o : ℕ) (slots : List Slot) (n : ℕ) → AllByRecursion (Holds held) slots → InHeld held (slice_get (bytes_of i o slots) n)
bytes_in held i o [] n all = tt
bytes_in held i o (slot ∷ more) zero all = all.0
bytes_in held i o (slot ∷ more) (suc zero) all = all.0
bytes_in held i o (slot ∷ more) (suc (suc n)) all = bytes_in held i o more n all.1

-- ---- a fact on every need: on those of the rules, and on acts and releases of slots that hold a reference

module _ {R : Type 0} (P : Need → Type 0) (want : Want) (progress : Progress R)
    (on_rest : P needs.Rest) (on_turn : P needs.Turn) (on_finished : P needs.Finished)
    (on_count : (slot : Slot) (act : Act) → Holds progress.held slot → P (needs.Count slot act))
    (on_release : (slot : Slot) → Holds progress.held slot → P (needs.Release slot))
    (on_given : (out : Slot × ℕ) → progress.given ≡ Some out → P (needs.Release out.0))
    (on_asked : is_judged progress.phase ≡ true → is_done want ≡ false → P (judging want progress)) where
  counting_is : (entry : Option (Slot × Act)) (other : Need) → InHeld progress.held entry → P other → P (counting entry other)
  counting_is None other here h = h
  counting_is (Some entry) other here h = on_count entry.0 entry.1 here

  leaving_is : (slots : List Slot) → AllByRecursion (Holds progress.held) slots → P (leaving slots)
  leaving_is [] all = on_turn
  leaving_is (slot ∷ more) all = on_release slot all.0

  closing_is : (bytes : Option (ℕ × ℕ)) → P (closing bytes progress)
  closing_is None = on_rest
  closing_is (Some bytes) =
      counting_is (slice_get (bytes_of bytes.0 bytes.1 (holding progress.held)) progress.counted) (leaving (holding progress.held))
      (bytes_in progress.held bytes.0 bytes.1 (holding progress.held) progress.counted (holding_holds progress.held))
      (leaving_is (holding progress.held) (holding_holds progress.held))

  judging_is : (same : Want) → want ≡ same → is_judged progress.phase ≡ true → P (judging same progress)
  judging_is (Done Accept) is judged =
      counting_is (slice_get (sessions (holding progress.held)) progress.counted) needs.Turn
      (sessions_in progress.held (holding progress.held) progress.counted (holding_holds progress.held)) on_turn
  judging_is (Done Reject) is judged = on_turn
  judging_is (Get table key) is judged = subst (λ w. P (judging w progress)) is (on_asked judged (ap is_done is))
  judging_is (Track slot table key) is judged = subst (λ w. P (judging w progress)) is (on_asked judged (ap is_done is))
  judging_is (Look slot) is judged = subst (λ w. P (judging w progress)) is (on_asked judged (ap is_done is))
  judging_is (Count slot act) is judged = subst (λ w. P (judging w progress)) is (on_asked judged (ap is_done is))

  in_phase : (phase : Phase) → progress.phase ≡ phase → P (need_in phase want progress)
  in_phase New at = judging_is want refl (ap is_judged at)
  in_phase Judging at = judging_is want refl (ap is_judged at)
  in_phase Admitted at = closing_is progress.bytes
  in_phase Rejected at = leaving_is (holding progress.held) (holding_holds progress.held)
  in_phase Ended at = on_finished

  given_is : (given : Option (Slot × ℕ)) → progress.given ≡ given → P (need_given given want progress)
  given_is None at = in_phase progress.phase refl
  given_is (Some out) at = on_given out at

  pub need_is : P (need_of want progress)
  unfolding need_of
  need_is = given_is progress.given refl

-- ---- slots that the rules track hold a reference

table_held : {R : Type 0} (entry : Option (ℕ × R)) → is_some (table_of entry) ≡ is_some entry
table_held None = refl
table_held (Some entry) = refl

slot_held : {R : Type 0} (held : Held R) (slot : Slot) → is_some (slot_of (tables_of held) slot) ≡ is_some (held_at held slot)
unfolding tables_of
slot_held held Sc0 = table_held held.sc0
slot_held held Sc1 = table_held held.sc1
slot_held held Sc2 = table_held held.sc2

not_free : (b : Bool) → not b ≡ true → b ≡ false
not_free true h = sym h
not_free false h = refl

judging_held : {R : Type 0} (want : Want) (progress : Progress R) → is_done want ≡ false → is_tracking (tables_of progress.held) want ≡ true → names_held progress.held (judging want progress) ≡ true
judging_held (Get table key) progress asks tracks = refl
judging_held (Track slot table key) progress asks tracks = refl
judging_held (Look slot) progress asks tracks = sym (slot_held progress.held slot) ∙ tracks
judging_held (Count slot act) progress asks tracks = sym (slot_held progress.held slot) ∙ tracks
judging_held (Done verdict) progress asks tracks = cc

judging_free : {R : Type 0} (want : Want) (progress : Progress R) → is_done want ≡ false → is_free (tables_of progress.held) want ≡ true → wants_held progress.held (judging want progress) ≡ false
judging_free (Get table key) progress asks free = refl
judging_free (Track slot table key) progress asks free = sym (slot_held progress.held slot) ∙ not_free (is_some (slot_of (tables_of progress.held) slot)) free
judging_free (Look slot) progress asks free = refl
judging_free (Count slot act) progress asks free = refl
judging_free (Done verdict) progress asks free = cc

judging_table : {R : Type 0} (setup : Setup) (want : Want) (progress : Progress R) → is_done want ≡ false → names_table setup want ≡ true → names_table_of setup (judging want progress) ≡ true
judging_table setup (Get table key) progress asks there = there
judging_table setup (Track slot table key) progress asks there = there
judging_table setup (Look slot) progress asks there = refl
judging_table setup (Count slot act) progress asks there = refl
judging_table setup (Done verdict) progress asks there = cc

-- ---- of a connection

pub conn_table : {R : Type 0} (conn : Conn R) → names_table_of (judged_by conn) (needed conn) ≡ true
unfolding judged_by wanted progress_of
conn_table conn =
    need_is (λ need. names_table_of (setup_of conn.eval) need ≡ true) (remaining conn.eval []) (progress_of conn) refl refl refl
    (λ slot act here. refl) (λ slot here. refl) (λ out at. refl)
    (λ judged asks. judging_table (setup_of conn.eval) (remaining conn.eval []) (progress_of conn) asks (eval_names conn.eval))

pub conn_free : {R : Type 0} (conn : Conn R) → wants_held (progress_of conn).held (needed conn) ≡ false
unfolding wanted progress_of
conn_free conn =
    need_is (λ need. wants_held conn.held need ≡ false) (remaining conn.eval []) (progress_of conn) refl refl refl
    (λ slot act here. refl) (λ slot here. refl) (λ out at. refl)
    (λ judged asks. judging_free (remaining conn.eval []) (progress_of conn) asks
    (ap (λ slots. is_free slots (remaining conn.eval [])) (conn.same_tables judged) ∙ eval_free conn.eval))

pub conn_held : {R : Type 0} (conn : Conn R) → is_some (progress_of conn).given ≡ false → names_held (progress_of conn).held (needed conn) ≡ true
unfolding wanted progress_of
conn_held conn none =
    need_is (λ need. names_held conn.held need ≡ true) (remaining conn.eval []) (progress_of conn) refl refl refl
    (λ slot act here. here) (λ slot here. here) (λ out at. absurd (false≢true (sym none ∙ ap is_some at)))
    (λ judged asks. judging_held (remaining conn.eval []) (progress_of conn) asks
    (ap (λ slots. is_tracking slots (remaining conn.eval [])) (conn.same_tables judged) ∙ eval_tracking conn.eval))
