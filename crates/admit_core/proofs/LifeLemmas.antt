-- What is over in the life of an accepted connection: its sessions, its rest, its bytes, its references, and its end.
use Rattle.std.proofs.Common.{◌≡◌, ◌∙◌, append_assoc, ℕ, ◌+◌, ◌≤◌, arith, Bool, true, false, not, ◌&&◌, ◌||◌, if◌then◌else◌, List, [], ◌∷◌, ◌++◌, drop, length, map, slice_get, Option, Some, None, refl, sym, ap, subst}
use Rattle.std.specs.List.{list_any}
use Rattle.std.proofs.lemmas.Bool.{false≢true}
use Rattle.std.proofs.lemmas.List.{drop_all}
use Rattle.std.proofs.lemmas.List.Folds.{list_any-append}
use Rattle.stored_data.specs.declared.act.Act.{Act}
use Rattle.rule_model.specs.declared.actions.Slot.{Slot}
use Rattle.rule_model.specs.declared.sections.Setup.{Setup}
use Rattle.rule_eval.specs.Left.{is_done}
use Rattle.rule_eval.specs.Verdict.{next}
use Rattle.rule_eval.specs.declared.wants.Answer.{Answer}
use Rattle.rule_eval.specs.declared.wants.Answer.TheVariants as answers
use Rattle.rule_eval.specs.declared.wants.Samples.{Samples}
use Rattle.rule_eval.specs.declared.wants.Verdict.TheVariants.{Accept}
use Rattle.rule_eval.specs.declared.wants.Want.{Want}
use Rattle.rule_eval.specs.declared.wants.Want.TheVariants as wants
use Rattle.admit_core.specs.Connection.{Connection, answers_need, bytes_of, counting, gave_at, gave_of, is_event, is_judged, is_release, leaving, need, need_of, refused_of, sessions, skipped, took_of, turned_of}
use Rattle.admit_core.specs.Held.{held_with, holding}
use Rattle.admit_core.specs.History.{Happening, Lives, after, answered, closes, gives, is_count, turns, was_refused}
use Rattle.admit_core.specs.Left.{is_rest}
use Rattle.admit_core.specs.Life.{closings, counts, life_of, over, over_all, LifeLaw}
use Rattle.admit_core.specs.declared.held.Held.{Held}
use Rattle.admit_core.specs.declared.need.Need.{Need}
use Rattle.admit_core.specs.declared.need.Need.TheVariants as needs
use Rattle.admit_core.specs.declared.need.Phase.{Phase}
use Rattle.admit_core.specs.declared.need.Phase.TheVariants.{New, Judging, Admitted, Rejected, Ended}
use Rattle.admit_core.proofs.TakenLemmas.{IsTaken, drop_one, first_taken, past}

-- ---- what a cursor stands at

-- an act is wanted, or the first reference is to go back, or none is left
data Stands (acts : List (Slot × Act)) (k : ℕ) (slots : List Slot) : Need → Type 0 where
  at_act : (act : Slot × Act) → drop k acts ≡ act ∷ drop (k + 1) acts → Stands acts k slots (needs.Count act.0 act.1)
  at_slot : (slot : Slot) (rest : List Slot) → length acts ≤ k → slots ≡ slot ∷ rest → Stands acts k slots (needs.Release slot)
  at_end : length acts ≤ k → slots ≡ [] → Stands acts k slots needs.Turn

stands_at : (acts : List (Slot × Act)) (k : ℕ) (slots : List Slot) → Stands acts k slots (counting (slice_get acts k) (leaving slots))
stands_at acts k slots = by (slice_get acts k) refl slots refl
  where
    by : (o : Option (Slot × Act)) → slice_get acts k ≡ o → (left : List Slot) → slots ≡ left → Stands acts k slots (counting o (leaving left))
    by (Some act) at left is = at_act act (drop_one acts k act at)
    by None at (slot ∷ rest) is = at_slot slot rest (past acts k at) is
    by None at [] is = at_end (past acts k at) is

-- ---- closed: bytes are counted, and references go back

module _ {R : Type 0} (setup : Setup) (samples : Samples) (given_answers : List Answer) (bytes_in bytes_out : ℕ) where
  abbrev closing_at : ℕ → Held R → Option (Slot × ℕ) → Connection R
  closing_at k held given = record { setup = setup; samples = samples; answers = given_answers; progress = record { phase = Admitted; bytes = Some (bytes_in, bytes_out); counted = k; held = held; given = given } }

  abbrev ended_at : ℕ → Held R → Connection R
  ended_at k held = record { setup = setup; samples = samples; answers = given_answers; progress = record { phase = Ended; bytes = Some (bytes_in, bytes_out); counted = k; held = held; given = None } }

  -- what is left to be over
  abbrev left_at : ℕ → Held R → Option (Slot × ℕ) → List Need
  left_at k held None = counts (drop k (bytes_of bytes_in bytes_out (holding held))) ++ map needs.Release (holding held) ++ needs.Turn ∷ []
  left_at k held (Some out) = needs.Release out.0 ∷ map needs.Release (holding held) ++ needs.Turn ∷ []

  -- a reference that is handed out was the first, and all acts were counted
  abbrev Fits : ℕ → Held R → Option (Slot × ℕ) → Type 0
  Fits k held None = Unit {0}
  Fits k held (Some out) = (length (bytes_of bytes_in bytes_out (out.0 ∷ holding held)) ≤ k) × ((other : ℕ × R) → holding (held_with held out.0 (Some other)) ≡ out.0 ∷ holding held)

  -- nothing is over behind the end
  ended_none : (history : List (Happening R)) (k : ℕ) (held : Held R) (last : Connection R) → Lives (ended_at k held) history last → over_all (ended_at k held) history ≡ []
  unfolding need_of
  ended_none [] k held last lives = refl
  ended_none (answered answer reference ∷ more) k held last lives = absurd (false≢true lives.0.0)
  ended_none (was_refused reference ∷ more) k held last lives = absurd (false≢true lives.0.0)
  ended_none (turns ∷ more) k held last lives = cc
  ended_none (closes i o ∷ more) k held last lives = cc
  ended_none (gives ∷ more) k held last lives = absurd (false≢true lives.0.0)

  -- what comes behind is known
  abbrev Later : List (Happening R) → Connection R → Type 0
  Later more last = (k : ℕ) (held : Held R) (given : Option (Slot × ℕ)) → Lives (closing_at k held given) more last → Fits k held given → over_all (closing_at k held given) more ≡ left_at k held given

  -- ---- a reference is handed out

  given_step : (happening : Happening R) (more : List (Happening R)) (last : Connection R) (k : ℕ) (held : Held R) (out : Slot × ℕ) → Later more last → Lives (closing_at k held (Some out)) (happening ∷ more) last → Fits k held (Some out)
      → over_all (closing_at k held (Some out)) (happening ∷ more) ≡ left_at k held (Some out)
  unfolding need_of took_of refused_of
  given_step (answered answer reference) more last k held out later lives fits =
      let none : drop k (bytes_of bytes_in bytes_out (holding held)) ≡ [] = drop_all k (bytes_of bytes_in bytes_out (holding held)) (omega (arith, fits.0)) in
      ap (λ rest. needs.Release out.0 ∷ rest) (later k held None lives.1 tt ∙ ap (λ acts. counts acts ++ map needs.Release (holding held) ++ needs.Turn ∷ []) none)
  given_step (was_refused None) more last k held out later lives fits = absurd (false≢true lives.0.1)
  given_step (was_refused (Some reference)) more last k held out later lives fits =
      let again : Held R = held_with held out.0 (Some (out.1, reference)) in
      let slots : holding again ≡ out.0 ∷ holding held = fits.1 (out.1, reference) in
      let none : drop k (bytes_of bytes_in bytes_out (out.0 ∷ holding held)) ≡ [] = drop_all k (bytes_of bytes_in bytes_out (out.0 ∷ holding held)) fits.0 in
      later k again None lives.1 tt ∙ ap (λ all. counts (drop k (bytes_of bytes_in bytes_out all)) ++ map needs.Release all ++ needs.Turn ∷ []) slots
      ∙ ap (λ acts. counts acts ++ map needs.Release (out.0 ∷ holding held) ++ needs.Turn ∷ []) none
  given_step turns more last k held out later lives fits = cc
  given_step (closes i o) more last k held out later lives fits = cc
  given_step gives more last k held out later lives fits = absurd (false≢true (sym lives.0.1))

  -- ---- none is

  -- an act is over, answered or skipped
  act_over : (more : List (Happening R)) (last : Connection R) (k : ℕ) (held : Held R) (act : Slot × Act) → Later more last → drop k (bytes_of bytes_in bytes_out (holding held)) ≡ act ∷ drop (k + 1) (bytes_of bytes_in bytes_out (holding held))
      → Lives (closing_at (k + 1) held None) more last → needs.Count act.0 act.1 ∷ over_all (closing_at (k + 1) held None) more ≡ left_at k held None
  act_over more last k held act later at lives =
      ap (λ rest. needs.Count act.0 act.1 ∷ rest) (later (k + 1) held None lives tt) ∙ ap (λ acts. counts acts ++ map needs.Release (holding held) ++ needs.Turn ∷ []) (sym at)

  answered_step : {wanted : Need} (answer : Answer) (reference : Option R) (more : List (Happening R)) (last : Connection R) (k : ℕ) (held : Held R) → Later more last → Stands (bytes_of bytes_in bytes_out (holding held)) k (holding held) wanted
      → answers_need wanted answer reference ≡ true → (answer ≡ answers.Released → false ≡ true) → Lives (closing_at (k + 1) held None) more last → wanted ∷ over_all (closing_at (k + 1) held None) more ≡ left_at k held None
  answered_step answer reference more last k held later (at_act one at) may free lives = act_over more last k held one later at lives
  answered_step answers.Released reference more last k held later (at_slot one rest counted is) may free lives = absurd (false≢true (free refl))
  answered_step answers.Absent reference more last k held later (at_slot one rest counted is) may free lives = absurd (false≢true may)
  answered_step (answers.Row row) reference more last k held later (at_slot one rest counted is) may free lives = absurd (false≢true may)
  answered_step answers.Tracked reference more last k held later (at_slot one rest counted is) may free lives = absurd (false≢true may)
  answered_step answers.Untracked reference more last k held later (at_slot one rest counted is) may free lives = absurd (false≢true may)
  answered_step (answers.Value value) reference more last k held later (at_slot one rest counted is) may free lives = absurd (false≢true may)
  answered_step answer reference more last k held later (at_end counted is) may free lives = absurd (false≢true may)

  abbrev skipped_at : Need → ℕ → Held R → Connection R
  skipped_at wanted k held = record (closing_at k held None) { progress = skipped wanted (closing_at k held None).progress }

  refused_step : {wanted : Need} (more : List (Happening R)) (last : Connection R) (k : ℕ) (held : Held R) → Later more last → Stands (bytes_of bytes_in bytes_out (holding held)) k (holding held) wanted → is_event wanted ≡ true → Lives (skipped_at wanted k held) more last
      → (if is_count wanted then wanted ∷ [] else []) ++ over_all (skipped_at wanted k held) more ≡ left_at k held None
  refused_step more last k held later (at_act one at) may lives = act_over more last k held one later at lives
  refused_step more last k held later (at_slot one rest counted is) may lives = later k held None lives tt
  refused_step more last k held later (at_end counted is) may lives = absurd (false≢true may)

  turned_step : {wanted : Need} (more : List (Happening R)) (last : Connection R) (k : ℕ) (held : Held R) → Stands (bytes_of bytes_in bytes_out (holding held)) k (holding held) wanted → wanted ≡ needs.Turn → Lives (ended_at k held) more last
      → needs.Turn ∷ over_all (ended_at k held) more ≡ left_at k held None
  turned_step more last k held (at_act one at) may lives = cc
  turned_step more last k held (at_slot one rest counted is) may lives = cc
  turned_step more last k held (at_end counted is) may lives =
      let none : drop k (bytes_of bytes_in bytes_out (holding held)) ≡ [] = drop_all k (bytes_of bytes_in bytes_out (holding held)) counted in
      ap (λ rest. needs.Turn ∷ rest) (ended_none more k held last lives) ∙ sym (λ n. counts (none n) ++ map needs.Release (is n) ++ needs.Turn ∷ [])

  abbrev gave_at_need : Need → ℕ → Held R → Connection R
  gave_at_need wanted k held = record (closing_at k held None) { progress = gave_of wanted (closing_at k held None).progress }

  gave_step : {wanted : Need} (more : List (Happening R)) (last : Connection R) (k : ℕ) (held : Held R) → Later more last → Stands (bytes_of bytes_in bytes_out (holding held)) k (holding held) wanted → is_release wanted ≡ true → Lives (gave_at_need wanted k held) more last
      → over_all (gave_at_need wanted k held) more ≡ left_at k held None
  gave_step more last k held later (at_act one at) may lives = absurd (false≢true may)
  gave_step more last k held later (at_end counted is) may lives = absurd (false≢true may)
  gave_step more last k held later (at_slot slot rest counted is) may lives =
      let taken : IsTaken held slot rest = first_taken held slot rest is in
      let less : Held R = held_with held slot None in
      let given : gave_at_need (needs.Release slot) k held ≡ closing_at k less (Some (slot, taken.entry.0)) =
      ap (λ o. record (closing_at k held None) { progress = gave_at slot o (closing_at k held None).progress }) taken.at in
      let all : slot ∷ holding less ≡ holding held = ap (λ slots. slot ∷ slots) taken.less ∙ sym is in
      let fits : Fits k less (Some (slot, taken.entry.0)) =
      (subst (λ slots. length (bytes_of bytes_in bytes_out slots) ≤ k) (sym all) counted, λ other. taken.back other ∙ ap (λ slots. slot ∷ slots) (sym taken.less)) in
      let none : drop k (bytes_of bytes_in bytes_out (holding held)) ≡ [] = drop_all k (bytes_of bytes_in bytes_out (holding held)) counted in
      ap (λ (c : Connection R). over_all c more) given ∙ later k less (Some (slot, taken.entry.0)) (subst (λ (c : Connection R). Lives c more last) given lives) fits
      ∙ (λ n. counts (sym none n) ++ map needs.Release (all n) ++ needs.Turn ∷ [])

  free_step : (happening : Happening R) (more : List (Happening R)) (last : Connection R) (k : ℕ) (held : Held R) → Later more last → Lives (closing_at k held None) (happening ∷ more) last
      → over_all (closing_at k held None) (happening ∷ more) ≡ left_at k held None
  unfolding need_of took_of refused_of
  free_step (answered answer reference) more last k held later lives =
      answered_step answer reference more last k held later (stands_at (bytes_of bytes_in bytes_out (holding held)) k (holding held)) lives.0.0 lives.0.1 lives.1
  free_step (was_refused reference) more last k held later lives =
      refused_step more last k held later (stands_at (bytes_of bytes_in bytes_out (holding held)) k (holding held)) lives.0.0 lives.1
  free_step turns more last k held later lives =
      turned_step more last k held (stands_at (bytes_of bytes_in bytes_out (holding held)) k (holding held)) lives.0 lives.1
  free_step (closes i o) more last k held later lives = never (stands_at (bytes_of bytes_in bytes_out (holding held)) k (holding held)) lives.0
    where
      never : {wanted : Need} → Stands (bytes_of bytes_in bytes_out (holding held)) k (holding held) wanted → wanted ≡ needs.Rest → over_all (closing_at k held None) (closes i o ∷ more) ≡ left_at k held None
      never (at_act one at) may = cc
      never (at_slot one rest counted is) may = cc
      never (at_end counted is) may = cc
  free_step gives more last k held later lives =
      gave_step more last k held later (stands_at (bytes_of bytes_in bytes_out (holding held)) k (holding held)) lives.0.0 lives.1

  pub closing_life : (history : List (Happening R)) (last : Connection R) → last.progress.phase ≡ Ended → Later history last
  closing_life [] last ended k held given lives fits =
      let not_ended : Admitted ≡ Ended = sym (ap (λ (c : Connection R). c.progress.phase) lives) ∙ ended in
      cc
  closing_life (happening ∷ more) last ended k held None lives fits = free_step happening more last k held (closing_life more last ended) lives
  closing_life (happening ∷ more) last ended k held (Some out) lives fits = given_step happening more last k held out (closing_life more last ended) lives fits

-- ---- admitted, until it is closed

-- what is over behind the verdict's turn, with these bytes
abbrev behind : ℕ → ℕ → List Slot → List Need
behind bytes_in bytes_out slots = needs.Rest ∷ counts (bytes_of bytes_in bytes_out slots) ++ map needs.Release slots ++ needs.Turn ∷ []

-- the bytes with which a history closes it, once, and with which this is over
abbrev WithBytes : {R : Type 0} → (ℕ → ℕ → List Need) → List (Happening R) → List Need → Type 0
WithBytes all history over_these = (bytes_in : ℕ) × (bytes_out : ℕ) × (closings history ≡ (bytes_in, bytes_out) ∷ []) × (over_these ≡ all bytes_in bytes_out)

-- ---- behind its close there is no other

none_on_right : (a b : Bool) → (a || b) ≡ false → b ≡ false
none_on_right true b none = absurd (false≢true (sym none))
none_on_right false b none = none

rest_behind : (first more : List Need) → list_any is_rest (first ++ more) ≡ false → list_any is_rest more ≡ false
rest_behind first more none = none_on_right (list_any is_rest first) (list_any is_rest more) (sym (list_any-append is_rest first more) ∙ none)

-- without a rest it isn't closed
closed_no_more : {R : Type 0} (connection : Connection R) (history : List (Happening R)) → list_any is_rest (over_all connection history) ≡ false → closings history ≡ []
closed_no_more connection [] none = refl
closed_no_more connection (closes i o ∷ more) none = absurd (false≢true (sym none))
closed_no_more connection (answered answer reference ∷ more) none =
    closed_no_more (after connection (answered answer reference)) more (rest_behind (over connection (answered answer reference)) (over_all (after connection (answered answer reference)) more) none)
closed_no_more connection (was_refused reference ∷ more) none =
    closed_no_more (after connection (was_refused reference)) more (rest_behind (over connection (was_refused reference)) (over_all (after connection (was_refused reference)) more) none)
closed_no_more connection (turns ∷ more) none = closed_no_more (after connection turns) more none
closed_no_more connection (gives ∷ more) none = closed_no_more (after connection gives) more none

released_no_rest : (slots : List Slot) → list_any is_rest (map needs.Release slots ++ needs.Turn ∷ []) ≡ false
released_no_rest [] = refl
released_no_rest (slot ∷ slots) = released_no_rest slots

left_no_rest : (acts : List (Slot × Act)) (slots : List Slot) → list_any is_rest (counts acts ++ map needs.Release slots ++ needs.Turn ∷ []) ≡ false
left_no_rest [] slots = released_no_rest slots
left_no_rest (act ∷ acts) slots = left_no_rest acts slots

never_rests : {wanted : Need} (k : ℕ) (acts : List (Slot × Act)) → Stands acts k [] wanted → wanted ≡ needs.Rest → ⊥
never_rests k acts (at_act one at) may = cc
never_rests k acts (at_slot one rest counted is) may = cc
never_rests k acts (at_end counted is) may = cc

never_leaves : {wanted : Need} (k : ℕ) (acts : List (Slot × Act)) → Stands acts k [] wanted → is_release wanted ≡ true → ⊥
never_leaves k acts (at_act one at) may = false≢true may
never_leaves k acts (at_slot one rest counted is) may = cc
never_leaves k acts (at_end counted is) may = false≢true may

module _ {R : Type 0} (setup : Setup) (samples : Samples) (given_answers : List Answer) where
  abbrev admitted_at : ℕ → Held R → Connection R
  admitted_at k held = record { setup = setup; samples = samples; answers = given_answers; progress = record { phase = Admitted; bytes = None; counted = k; held = held; given = None } }

  rested : (history : List (Happening R)) (last : Connection R) (k : ℕ) (held : Held R) → last.progress.phase ≡ Ended → Lives (admitted_at k held) history last
      → WithBytes (λ bytes_in bytes_out. behind bytes_in bytes_out (holding held)) history (over_all (admitted_at k held) history)
  unfolding need_of
  rested [] last k held ended lives =
      let not_ended : Admitted ≡ Ended = sym (ap (λ (c : Connection R). c.progress.phase) lives) ∙ ended in
      cc
  rested (closes bytes_in bytes_out ∷ more) last k held ended lives =
      let life = closing_life setup samples given_answers bytes_in bytes_out more last ended 0 held None lives.1 tt in
      let no_rest : list_any is_rest (over_all (closing_at setup samples given_answers bytes_in bytes_out 0 held None) more) ≡ false =
      ap (list_any is_rest) life ∙ left_no_rest (drop 0 (bytes_of bytes_in bytes_out (holding held))) (holding held) in
      (bytes_in, bytes_out, ap (λ others. (bytes_in, bytes_out) ∷ others) (closed_no_more _ more no_rest), ap (λ rest. needs.Rest ∷ rest) life)
  rested (answered answer reference ∷ more) last k held ended lives = absurd (false≢true lives.0.0)
  rested (was_refused reference ∷ more) last k held ended lives = absurd (false≢true lives.0.0)
  rested (turns ∷ more) last k held ended lives = cc
  rested (gives ∷ more) last k held ended lives = absurd (false≢true lives.0.0)

  -- ---- accepted: sessions are counted

  abbrev judged_at : Phase → ℕ → Held R → Connection R
  judged_at phase k held = record { setup = setup; samples = samples; answers = given_answers; progress = record { phase = phase; bytes = None; counted = k; held = held; given = None } }

  abbrev sessions_left : ℕ → Held R → ℕ → ℕ → List Need
  sessions_left k held bytes_in bytes_out = counts (drop k (sessions (holding held))) ++ needs.Turn ∷ behind bytes_in bytes_out (holding held)

  module _ (phase : Phase) (judged : is_judged phase ≡ true) (accepted : next setup samples given_answers ≡ wants.Done Accept) where
    abbrev Accepted : List (Happening R) → Connection R → Type 0
    Accepted more last = (k : ℕ) (held : Held R) → Lives (judged_at phase k held) more last → WithBytes (sessions_left k held) more (over_all (judged_at phase k held) more)

    needed : (k : ℕ) (held : Held R) → need (judged_at phase k held) ≡ counting (slice_get (sessions (holding held)) k) (leaving [])
    unfolding need_of
    needed k held = ap (λ want. need_of want (judged_at phase k held).progress) accepted ∙ by phase judged
      where
        by : (p : Phase) → is_judged p ≡ true → need_of (wants.Done Accept) (judged_at p k held).progress ≡ counting (slice_get (sessions (holding held)) k) needs.Turn
        by New is = refl
        by Judging is = refl
        by Admitted is = absurd (false≢true is)
        by Rejected is = absurd (false≢true is)
        by Ended is = absurd (false≢true is)

    stands_there : (k : ℕ) (held : Held R) → Stands (sessions (holding held)) k [] (need (judged_at phase k held))
    stands_there k held = subst (Stands (sessions (holding held)) k []) (sym (needed k held)) (stands_at (sessions (holding held)) k [])

    after_answer : (answer : Answer) (reference : Option R) (k : ℕ) (held : Held R) → after (judged_at phase k held) (answered answer reference) ≡ judged_at phase (k + 1) held
    unfolding took_of
    after_answer answer reference k held = ap (heard_by phase) accepted ∙ by phase judged
      where
        heard_by : Phase → Want → Connection R
        heard_by p want = record {
          setup = setup;
          samples = samples;
          answers = if (is_judged p && not (is_done want)) then given_answers ++ answer ∷ [] else given_answers;
          progress = took_of want (judged_at p k held).progress reference;
        }

        by : (p : Phase) → is_judged p ≡ true → heard_by p (wants.Done Accept) ≡ judged_at p (k + 1) held
        by New is = refl
        by Judging is = refl
        by Admitted is = absurd (false≢true is)
        by Rejected is = absurd (false≢true is)
        by Ended is = absurd (false≢true is)

    -- a refusal skips the act
    after_refusal : (reference : Option R) (k : ℕ) (held : Held R) → after (judged_at phase k held) (was_refused reference) ≡ record (judged_at phase k held) { progress = skipped (need (judged_at phase k held)) (judged_at phase k held).progress }
    unfolding refused_of need_of
    after_refusal reference k held = ap refused_by accepted ∙ by phase judged ∙ sym (ap skips accepted)
      where
        refused_by : Want → Connection R
        refused_by want = record (judged_at phase k held) { progress = refused_of want (judged_at phase k held).progress reference }

        skips : Want → Connection R
        skips want = record (judged_at phase k held) { progress = skipped (need_of want (judged_at phase k held).progress) (judged_at phase k held).progress }

        by : (p : Phase) → is_judged p ≡ true → record (judged_at p k held) { progress = refused_of (wants.Done Accept) (judged_at p k held).progress reference } ≡ record (judged_at p k held) { progress = skipped (need_of (wants.Done Accept) (judged_at p k held).progress) (judged_at p k held).progress }
        by New is = refl
        by Judging is = refl
        by Admitted is = absurd (false≢true is)
        by Rejected is = absurd (false≢true is)
        by Ended is = absurd (false≢true is)

    after_turn : (k : ℕ) (held : Held R) → after (judged_at phase k held) turns ≡ admitted_at k held
    after_turn k held = ap (λ want. record (judged_at phase k held) { progress = turned_of want (judged_at phase k held).progress }) accepted ∙ by phase judged
      where
        by : (p : Phase) → is_judged p ≡ true → record (judged_at p k held) { progress = turned_of (wants.Done Accept) (judged_at p k held).progress } ≡ admitted_at k held
        by New is = refl
        by Judging is = refl
        by Admitted is = absurd (false≢true is)
        by Rejected is = absurd (false≢true is)
        by Ended is = absurd (false≢true is)

    -- a session is over, answered or skipped
    session_over : (more : List (Happening R)) (last : Connection R) (k : ℕ) (held : Held R) (act : Slot × Act) → Accepted more last → drop k (sessions (holding held)) ≡ act ∷ drop (k + 1) (sessions (holding held))
        → Lives (judged_at phase (k + 1) held) more last → WithBytes (sessions_left k held) more (needs.Count act.0 act.1 ∷ over_all (judged_at phase (k + 1) held) more)
    session_over more last k held act later at lives =
        let rest = later (k + 1) held lives in
        (rest.0, rest.1, rest.2, ap (λ over_these. needs.Count act.0 act.1 ∷ over_these) rest.3 ∙ ap (λ acts. counts acts ++ needs.Turn ∷ behind rest.0 rest.1 (holding held)) (sym at))

    answer_over : {wanted : Need} (answer : Answer) (reference : Option R) (more : List (Happening R)) (last : Connection R) (k : ℕ) (held : Held R) → Accepted more last → Stands (sessions (holding held)) k [] wanted
        → answers_need wanted answer reference ≡ true → Lives (judged_at phase (k + 1) held) more last → WithBytes (sessions_left k held) more (wanted ∷ over_all (judged_at phase (k + 1) held) more)
    answer_over answer reference more last k held later (at_act one at) may lives = session_over more last k held one later at lives
    answer_over answer reference more last k held later (at_slot one rest counted is) may lives = cc
    answer_over answer reference more last k held later (at_end counted is) may lives = absurd (false≢true may)

    abbrev skips_at : Need → ℕ → Held R → Connection R
    skips_at wanted k held = record (judged_at phase k held) { progress = skipped wanted (judged_at phase k held).progress }

    refusal_over : {wanted : Need} (more : List (Happening R)) (last : Connection R) (k : ℕ) (held : Held R) → Accepted more last → Stands (sessions (holding held)) k [] wanted → is_event wanted ≡ true → Lives (skips_at wanted k held) more last
        → WithBytes (sessions_left k held) more ((if is_count wanted then wanted ∷ [] else []) ++ over_all (skips_at wanted k held) more)
    refusal_over more last k held later (at_act one at) may lives = session_over more last k held one later at lives
    refusal_over more last k held later (at_slot one rest counted is) may lives = cc
    refusal_over more last k held later (at_end counted is) may lives = absurd (false≢true may)

    turn_over : {wanted : Need} (more : List (Happening R)) (last : Connection R) (k : ℕ) (held : Held R) → last.progress.phase ≡ Ended → Stands (sessions (holding held)) k [] wanted → wanted ≡ needs.Turn → Lives (admitted_at k held) more last
        → WithBytes (sessions_left k held) more (needs.Turn ∷ over_all (admitted_at k held) more)
    turn_over more last k held ended (at_act one at) may lives = cc
    turn_over more last k held ended (at_slot one rest counted is) may lives = cc
    turn_over more last k held ended (at_end counted is) may lives =
        let none : drop k (sessions (holding held)) ≡ [] = drop_all k (sessions (holding held)) counted in
        let rest = rested more last k held ended lives in
        (rest.0, rest.1, rest.2, ap (λ over_these. needs.Turn ∷ over_these) rest.3 ∙ sym (ap (λ acts. counts acts ++ needs.Turn ∷ behind rest.0 rest.1 (holding held)) none))

    accepted_life : (history : List (Happening R)) (last : Connection R) → last.progress.phase ≡ Ended → Accepted history last
    accepted_life [] last ended k held lives =
        let not_ended : is_judged Ended ≡ true = ap is_judged (sym ended ∙ ap (λ (c : Connection R). c.progress.phase) lives) ∙ judged in
        absurd (false≢true not_ended)
    accepted_life (answered answer reference ∷ more) last ended k held lives =
        let step = after_answer answer reference k held in
        subst (λ (c : Connection R). WithBytes (sessions_left k held) more (need (judged_at phase k held) ∷ over_all c more)) (sym step)
        (answer_over answer reference more last k held (accepted_life more last ended) (stands_there k held) lives.0.0 (subst (λ (c : Connection R). Lives c more last) step lives.1))
    accepted_life (was_refused reference ∷ more) last ended k held lives =
        let step = after_refusal reference k held in
        subst (λ (c : Connection R). WithBytes (sessions_left k held) more (over (judged_at phase k held) (was_refused reference) ++ over_all c more)) (sym step)
        (refusal_over more last k held (accepted_life more last ended) (stands_there k held) lives.0.0 (subst (λ (c : Connection R). Lives c more last) step lives.1))
    accepted_life (turns ∷ more) last ended k held lives =
        let step = after_turn k held in
        subst (λ (c : Connection R). WithBytes (sessions_left k held) more (needs.Turn ∷ over_all c more)) (sym step)
        (turn_over more last k held ended (stands_there k held) lives.0 (subst (λ (c : Connection R). Lives c more last) step lives.1))
    accepted_life (closes bytes_in bytes_out ∷ more) last ended k held lives = absurd (never_rests k (sessions (holding held)) (stands_there k held) lives.0)
    accepted_life (gives ∷ more) last ended k held lives = absurd (never_leaves k (sessions (holding held)) (stands_there k held) lives.0.0)

none_dropped : {X : Type 0} (xs : List X) → drop 0 xs ≡ xs
none_dropped [] = refl
none_dropped (x ∷ xs) = refl

life_is : (slots : List Slot) (bytes_in bytes_out : ℕ) → counts (sessions slots) ++ needs.Turn ∷ behind bytes_in bytes_out slots ≡ life_of slots bytes_in bytes_out
life_is slots bytes_in bytes_out = simp append_assoc

pub life_law : {R : Type 0} → LifeLaw R
life_law {R} connection last history judged accepted counted bytes given lives ended =
    let here : Connection R = judged_at connection.setup connection.samples connection.answers connection.progress.phase 0 connection.progress.held in
    let same : connection ≡ here = (λ k. record connection { progress = record connection.progress { counted = counted k; bytes = bytes k; given = given k } }) in
    let life = accepted_life connection.setup connection.samples connection.answers connection.progress.phase judged accepted history last ended 0 connection.progress.held (subst (λ (c : Connection R). Lives c history last) same lives) in
    let slots : List Slot = holding connection.progress.held in
    (life.0, life.1, life.2, ap (λ (c : Connection R). over_all c history) same ∙ life.3 ∙ ap (λ acts. counts acts ++ needs.Turn ∷ behind life.0 life.1 slots) (none_dropped (sessions slots)) ∙ life_is slots life.0 life.1)
