-- Each thing that a connection does leaves it less to do.
use Rattle.std.proofs.Common.{◌≡◌, ℕ, ◌+◌, ◌-◌, ◌*◌, ◌≤◌, ◌<◌, refl, sym, ap, subst, ◌∙◌, arith, Bool, true, false, cond, not, ◌&&◌, List, [], ◌∷◌, length, slice_get, Option, Some, None, is_some}
use Rattle.std.proofs.lemmas.Bool.{false≢true}
use Rattle.std.proofs.lemmas.List.{length-map}
use Rattle.std.proofs.lemmas.Option.{slice_get_within}
use Rattle.stored_data.specs.declared.act.Act.{Act}
use Rattle.stored_data.specs.declared.act.Act.TheVariants as acts
use Rattle.rule_model.specs.declared.actions.Slot.{Slot}
use Rattle.rule_model.specs.declared.actions.Slot.TheVariants.{Sc0, Sc1, Sc2}
use Rattle.rule_eval.specs.Left.{is_done}
use Rattle.rule_eval.specs.declared.wants.Answer.{Answer}
use Rattle.rule_eval.specs.declared.wants.Answer.TheVariants as answers
use Rattle.rule_eval.specs.declared.wants.Verdict.TheVariants.{Accept, Reject}
use Rattle.rule_eval.specs.declared.wants.Want.{Want}
use Rattle.rule_eval.specs.declared.wants.Want.TheVariants as wants
use Rattle.admit_core.specs.Connection.{Progress, answers_need, bytes_of, closing, counting, gave_at, gave_of, is_asking, is_event, is_release, judging, leaving, need_given, need_in, need_of, phase_after, phase_by, refused_before, refused_given, refused_of, sessions, skipped, took_given, took_in, took_of, turned_of}
use Rattle.admit_core.specs.Held.{held_at, held_with, holding}
use Rattle.admit_core.specs.Left.{closing_left, left_of, phase_left}
use Rattle.admit_core.specs.declared.held.Held.{Held}
use Rattle.admit_core.specs.declared.need.Need.{Need}
use Rattle.admit_core.specs.declared.need.Need.TheVariants as needs
use Rattle.admit_core.specs.declared.need.Phase.{Phase}
use Rattle.admit_core.specs.declared.need.Phase.TheVariants.{New, Judging, Admitted, Rejected, Ended}
use Rattle.admit_core.proofs.HeldLemmas.{holding-few}

-- ---- how many acts there are

pub acts_length : (bytes_in bytes_out : ℕ) (slots : List Slot) → length (bytes_of bytes_in bytes_out slots) ≡ 2 * length slots
acts_length bytes_in bytes_out [] = refl
acts_length bytes_in bytes_out (slot ∷ more) = let rest = acts_length bytes_in bytes_out more in omega (arith, rest)

-- a slot less holds
without_shorter : {R : Type 0} (held : Held R) (slot : Slot) → is_some (held_at held slot) ≡ true → length (holding (held_with held slot None)) + 1 ≡ length (holding held)
without_shorter held Sc0 some = fewer (is_some held.sc0) (is_some held.sc1) (is_some held.sc2) some
  where
    fewer : (a b c : Bool) → a ≡ true → length (cond b (Sc1 ∷ cond c (Sc2 ∷ []) []) (cond c (Sc2 ∷ []) [])) + 1 ≡ length (cond a (Sc0 ∷ cond b (Sc1 ∷ cond c (Sc2 ∷ []) []) (cond c (Sc2 ∷ []) [])) (cond b (Sc1 ∷ cond c (Sc2 ∷ []) []) (cond c (Sc2 ∷ []) [])))
    fewer true b c some = omega arith
    fewer false b c some = absurd (false≢true some)
without_shorter held Sc1 some = fewer (is_some held.sc0) (is_some held.sc1) (is_some held.sc2) some
  where
    fewer : (a b c : Bool) → b ≡ true → length (cond a (Sc0 ∷ cond c (Sc2 ∷ []) []) (cond c (Sc2 ∷ []) [])) + 1 ≡ length (cond a (Sc0 ∷ cond b (Sc1 ∷ cond c (Sc2 ∷ []) []) (cond c (Sc2 ∷ []) [])) (cond b (Sc1 ∷ cond c (Sc2 ∷ []) []) (cond c (Sc2 ∷ []) [])))
    fewer true true c some = omega arith
    fewer false true c some = omega arith
    fewer a false c some = absurd (false≢true some)
without_shorter held Sc2 some = fewer (is_some held.sc0) (is_some held.sc1) (is_some held.sc2) some
  where
    fewer : (a b c : Bool) → c ≡ true → length (cond a (Sc0 ∷ cond b (Sc1 ∷ []) []) (cond b (Sc1 ∷ []) [])) + 1 ≡ length (cond a (Sc0 ∷ cond b (Sc1 ∷ cond c (Sc2 ∷ []) []) (cond c (Sc2 ∷ []) [])) (cond b (Sc1 ∷ cond c (Sc2 ∷ []) []) (cond c (Sc2 ∷ []) [])))
    fewer true true true some = omega arith
    fewer true false true some = omega arith
    fewer false true true some = omega arith
    fewer false false true some = omega arith
    fewer a b false some = absurd (false≢true some)

-- ---- an act is counted, or skipped

abbrev some_act : Need → Bool
some_act (needs.Count slot act) = true
some_act other = false

session_left : {R : Type 0} (progress : Progress R) → some_act (counting (slice_get (sessions (holding progress.held)) progress.counted) needs.Turn) ≡ true → progress.counted < 3
session_left {R} progress counts = at (slice_get (sessions (holding progress.held)) progress.counted) refl counts
  where
    at : (o : Option (Slot × Act)) → slice_get (sessions (holding progress.held)) progress.counted ≡ o → some_act (counting o needs.Turn) ≡ true → progress.counted < 3
    at None is counts = absurd (false≢true counts)
    at (Some entry) is counts =
        omega (arith, slice_get_within (sessions (holding progress.held)) progress.counted entry is, length-map {B = Slot × Act} (holding progress.held) (λ (slot : Slot). (slot, acts.Session)), holding-few progress.held)

no_act : (slots : List Slot) → some_act (leaving slots) ≡ false
no_act [] = refl
no_act (slot ∷ more) = refl

byte_left : {R : Type 0} (progress : Progress R) (bytes : ℕ × ℕ) → some_act (closing (Some bytes) progress) ≡ true → progress.counted < 6
byte_left {R} progress bytes counts = at (slice_get (bytes_of bytes.0 bytes.1 (holding progress.held)) progress.counted) refl counts
  where
    at : (o : Option (Slot × Act)) → slice_get (bytes_of bytes.0 bytes.1 (holding progress.held)) progress.counted ≡ o → some_act (counting o (leaving (holding progress.held))) ≡ true → progress.counted < 6
    at None is counts = absurd (false≢true (sym (no_act (holding progress.held)) ∙ counts))
    at (Some entry) is counts =
        omega (arith, slice_get_within (bytes_of bytes.0 bytes.1 (holding progress.held)) progress.counted entry is, acts_length bytes.0 bytes.1 (holding progress.held), holding-few progress.held)

-- what only rules ask
abbrev of_rules : Need → Bool
of_rules (needs.Get t k) = true
of_rules (needs.Track s t k) = true
of_rules (needs.Look s) = true
of_rules other = false

counting_rules : (o : Option (Slot × Act)) (other : Need) → of_rules other ≡ false → of_rules (counting o other) ≡ false
counting_rules None other h = h
counting_rules (Some entry) other h = refl

leaving_rules : (slots : List Slot) → of_rules (leaving slots) ≡ false
leaving_rules [] = refl
leaving_rules (slot ∷ more) = refl

judging_rules : {R : Type 0} (want : Want) (progress : Progress R) → not (is_done want) ≡ false → of_rules (judging want progress) ≡ false
judging_rules (wants.Done Accept) progress asks = counting_rules (slice_get (sessions (holding progress.held)) progress.counted) needs.Turn refl
judging_rules (wants.Done Reject) progress asks = refl
judging_rules (wants.Get t k) progress asks = absurd (false≢true (sym asks))
judging_rules (wants.Track s t k) progress asks = absurd (false≢true (sym asks))
judging_rules (wants.Look s) progress asks = absurd (false≢true (sym asks))
judging_rules (wants.Count s a) progress asks = absurd (false≢true (sym asks))

closing_rules : {R : Type 0} (bytes : Option (ℕ × ℕ)) (progress : Progress R) → of_rules (closing bytes progress) ≡ false
closing_rules None progress = refl
closing_rules (Some bytes) progress = counting_rules (slice_get (bytes_of bytes.0 bytes.1 (holding progress.held)) progress.counted) (leaving (holding progress.held)) (leaving_rules (holding progress.held))

no_rules : {R : Type 0} (phase : Phase) (want : Want) (progress : Progress R) → (Rattle.admit_core.specs.Connection.is_judged phase && not (is_done want)) ≡ false → of_rules (need_in phase want progress) ≡ false
no_rules New want progress asks = judging_rules want progress asks
no_rules Judging want progress asks = judging_rules want progress asks
no_rules Admitted want progress asks = closing_rules progress.bytes progress
no_rules Rejected want progress asks = leaving_rules (holding progress.held)
no_rules Ended want progress asks = refl

asked_by_rules : {R : Type 0} (phase : Phase) (want : Want) (progress : Progress R) (wanted : Need) → wanted ≡ need_in phase want progress → of_rules wanted ≡ true → (Rattle.admit_core.specs.Connection.is_judged phase && not (is_done want)) ≡ false → ⊥
asked_by_rules phase want progress wanted is rules asks = false≢true (sym (no_rules phase want progress asks) ∙ sym (ap of_rules is) ∙ rules)

-- where an act is wanted and its rules don't ask, one act more is counted
counted_left : {R : Type 0} (phase : Phase) (want : Want) (progress : Progress R) (rules later : ℕ) → progress.phase ≡ phase → is_asking want progress ≡ false → some_act (need_in phase want progress) ≡ true → later ≤ rules
    → phase_left phase later (record progress { counted = progress.counted + 1 }) + 1 ≤ phase_left phase rules progress
counted_left New want progress rules later at asks counts less = judged want (sym (ap (λ p. Rattle.admit_core.specs.Connection.is_judged p && not (is_done want)) at) ∙ asks) counts
  where
    judged : (want : Want) → not (is_done want) ≡ false → some_act (judging want progress) ≡ true → 20 + later + (3 - (progress.counted + 1)) + 1 ≤ 20 + rules + (3 - progress.counted)
    judged (wants.Done Accept) asks counts = omega (arith, less, session_left progress counts)
    judged (wants.Done Reject) asks counts = absurd (false≢true counts)
    judged (wants.Get t k) asks counts = absurd (false≢true (sym asks))
    judged (wants.Track s t k) asks counts = absurd (false≢true (sym asks))
    judged (wants.Look s) asks counts = absurd (false≢true (sym asks))
    judged (wants.Count s a) asks counts = absurd (false≢true (sym asks))
counted_left Judging want progress rules later at asks counts less = judged want (sym (ap (λ p. Rattle.admit_core.specs.Connection.is_judged p && not (is_done want)) at) ∙ asks) counts
  where
    judged : (want : Want) → not (is_done want) ≡ false → some_act (judging want progress) ≡ true → 20 + later + (3 - (progress.counted + 1)) + 1 ≤ 20 + rules + (3 - progress.counted)
    judged (wants.Done Accept) asks counts = omega (arith, less, session_left progress counts)
    judged (wants.Done Reject) asks counts = absurd (false≢true counts)
    judged (wants.Get t k) asks counts = absurd (false≢true (sym asks))
    judged (wants.Track s t k) asks counts = absurd (false≢true (sym asks))
    judged (wants.Look s) asks counts = absurd (false≢true (sym asks))
    judged (wants.Count s a) asks counts = absurd (false≢true (sym asks))
counted_left Admitted want progress rules later at asks counts less = closed progress.bytes counts
  where
    closed : (bytes : Option (ℕ × ℕ)) → some_act (closing bytes progress) ≡ true → closing_left bytes (record progress { counted = progress.counted + 1 }) + 1 ≤ closing_left bytes progress
    closed None counts = absurd (false≢true counts)
    closed (Some bytes) counts = omega (arith, byte_left progress bytes counts)
counted_left Rejected want progress rules later at asks counts less = absurd (false≢true (sym (no_act (holding progress.held)) ∙ counts))
counted_left Ended want progress rules later at asks counts less = absurd (false≢true counts)

-- ---- a turn

closing_few : {R : Type 0} (bytes : Option (ℕ × ℕ)) (progress : Progress R) → closing_left bytes progress ≤ 15
closing_few None progress = omega arith
closing_few (Some bytes) progress = omega (arith, holding-few progress.held)

closing_some : {R : Type 0} (bytes : Option (ℕ × ℕ)) (progress : Progress R) → 1 ≤ closing_left bytes progress
closing_some None progress = omega arith
closing_some (Some bytes) progress = omega arith

verdict_left : {R : Type 0} (want : Want) (progress : Progress R) (rules : ℕ) → phase_left (phase_by want) rules progress + 1 ≤ 20
verdict_left (wants.Done Accept) progress rules = omega (arith, closing_few progress.bytes progress)
verdict_left (wants.Done Reject) progress rules = omega (arith, holding-few progress.held)
verdict_left (wants.Get t k) progress rules = omega (arith, holding-few progress.held)
verdict_left (wants.Track s t k) progress rules = omega (arith, holding-few progress.held)
verdict_left (wants.Look s) progress rules = omega (arith, holding-few progress.held)
verdict_left (wants.Count s a) progress rules = omega (arith, holding-few progress.held)

turned_in : {R : Type 0} (phase : Phase) (want : Want) (progress : Progress R) (rules : ℕ) → need_in phase want progress ≡ needs.Turn → phase_left (phase_after phase want) rules (record progress { phase = phase_after phase want }) + 1 ≤ phase_left phase rules progress
turned_in New want progress rules turn = omega (arith, verdict_left want (record progress { phase = phase_after New want }) rules)
turned_in Judging want progress rules turn = omega (arith, verdict_left want (record progress { phase = phase_after Judging want }) rules)
turned_in Admitted want progress rules turn = omega (arith, closing_some progress.bytes progress)
turned_in Rejected want progress rules turn = omega arith
turned_in Ended want progress rules turn = cc

pub turned_less : {R : Type 0} (want : Want) (progress : Progress R) (rules later : ℕ) → progress.given ≡ None → need_of want progress ≡ needs.Turn → later ≡ rules → left_of later (turned_of want progress) + 1 ≤ left_of rules progress
unfolding need_of
turned_less want progress rules later none turn same =
    let less : left_of rules (turned_of want progress) + 1 ≤ left_of rules progress = turned_in progress.phase want progress rules (sym (ap (λ g. need_given g want progress) none) ∙ turn) in
    subst (λ n. left_of n (turned_of want progress) + 1 ≤ left_of rules progress) (sym same) less

-- ---- an answer

-- an answer that is no release, to a need that isn't asked by the rules, is to an act
answers_act : {R : Type 0} (wanted : Need) (answer : Answer) (reference : Option R) (phase : Phase) (want : Want) (progress : Progress R) → wanted ≡ need_in phase want progress → answers_need wanted answer reference ≡ true
    → (answer ≡ answers.Released → ⊥) → (Rattle.admit_core.specs.Connection.is_judged phase && not (is_done want)) ≡ false → some_act (need_in phase want progress) ≡ true
answers_act (needs.Count slot act) answer reference phase want progress is fits no_release asks = ap some_act (sym is)
answers_act (needs.Release slot) answers.Released None phase want progress is fits no_release asks = absurd (no_release refl)
answers_act (needs.Release slot) answers.Released (Some r) phase want progress is fits no_release asks = absurd (false≢true fits)
answers_act (needs.Release slot) answers.Absent reference phase want progress is fits no_release asks = absurd (false≢true fits)
answers_act (needs.Release slot) (answers.Row row) reference phase want progress is fits no_release asks = absurd (false≢true fits)
answers_act (needs.Release slot) answers.Tracked reference phase want progress is fits no_release asks = absurd (false≢true fits)
answers_act (needs.Release slot) answers.Untracked reference phase want progress is fits no_release asks = absurd (false≢true fits)
answers_act (needs.Release slot) (answers.Value v) reference phase want progress is fits no_release asks = absurd (false≢true fits)
answers_act (needs.Get t k) answer reference phase want progress is fits no_release asks = absurd (asked_by_rules phase want progress (needs.Get t k) is refl asks)
answers_act (needs.Track s t k) answer reference phase want progress is fits no_release asks = absurd (asked_by_rules phase want progress (needs.Track s t k) is refl asks)
answers_act (needs.Look s) answer reference phase want progress is fits no_release asks = absurd (asked_by_rules phase want progress (needs.Look s) is refl asks)
answers_act needs.Rest answer reference phase want progress is fits no_release asks = absurd (false≢true fits)
answers_act needs.Turn answer reference phase want progress is fits no_release asks = absurd (false≢true fits)
answers_act needs.Finished answer reference phase want progress is fits no_release asks = absurd (false≢true fits)

-- an answer to the rules leaves them less to ask
heard_less : {R : Type 0} (phase : Phase) (want : Want) (progress : Progress R) (reference : Option R) (rules later : ℕ) → (Rattle.admit_core.specs.Connection.is_judged phase && not (is_done want)) ≡ true → later + 1 ≤ rules
    → left_of later (took_in phase want progress reference) + 1 ≤ phase_left phase rules progress
heard_less New (wants.Get t k) progress reference rules later asks less = omega (arith, less)
heard_less New (wants.Track s t k) progress reference rules later asks less = omega (arith, less)
heard_less New (wants.Look s) progress reference rules later asks less = omega (arith, less)
heard_less New (wants.Count s a) progress reference rules later asks less = omega (arith, less)
heard_less New (wants.Done v) progress reference rules later asks less = absurd (false≢true asks)
heard_less Judging (wants.Get t k) progress reference rules later asks less = omega (arith, less)
heard_less Judging (wants.Track s t k) progress reference rules later asks less = omega (arith, less)
heard_less Judging (wants.Look s) progress reference rules later asks less = omega (arith, less)
heard_less Judging (wants.Count s a) progress reference rules later asks less = omega (arith, less)
heard_less Judging (wants.Done v) progress reference rules later asks less = absurd (false≢true asks)
heard_less Admitted want progress reference rules later asks less = absurd (false≢true asks)
heard_less Rejected want progress reference rules later asks less = absurd (false≢true asks)
heard_less Ended want progress reference rules later asks less = absurd (false≢true asks)

-- an answer to what else is wanted counts an act
took_counted : {R : Type 0} (phase : Phase) (want : Want) (progress : Progress R) (reference : Option R) → (Rattle.admit_core.specs.Connection.is_judged phase && not (is_done want)) ≡ false → took_in phase want progress reference ≡ record progress { counted = progress.counted + 1 }
took_counted New (wants.Done v) progress reference asks = refl
took_counted New (wants.Get t k) progress reference asks = absurd (false≢true (sym asks))
took_counted New (wants.Track s t k) progress reference asks = absurd (false≢true (sym asks))
took_counted New (wants.Look s) progress reference asks = absurd (false≢true (sym asks))
took_counted New (wants.Count s a) progress reference asks = absurd (false≢true (sym asks))
took_counted Judging (wants.Done v) progress reference asks = refl
took_counted Judging (wants.Get t k) progress reference asks = absurd (false≢true (sym asks))
took_counted Judging (wants.Track s t k) progress reference asks = absurd (false≢true (sym asks))
took_counted Judging (wants.Look s) progress reference asks = absurd (false≢true (sym asks))
took_counted Judging (wants.Count s a) progress reference asks = absurd (false≢true (sym asks))
took_counted Admitted want progress reference asks = refl
took_counted Rejected want progress reference asks = refl
took_counted Ended want progress reference asks = refl

pub took_less : {R : Type 0} (want : Want) (progress : Progress R) (answer : Answer) (reference : Option R) (rules later : ℕ) → progress.given ≡ None → answers_need (need_of want progress) answer reference ≡ true
    → (answer ≡ answers.Released → ⊥) → (is_asking want progress ≡ true → later + 1 ≤ rules) → later ≤ rules → left_of later (took_of want progress reference) + 1 ≤ left_of rules progress
unfolding need_of took_of
took_less want progress answer reference rules later none fits no_release asked less =
    let free : took_of want progress reference ≡ took_in progress.phase want progress reference = ap (λ g. took_given g want progress reference) none in
    let wanted : need_of want progress ≡ need_in progress.phase want progress = ap (λ g. need_given g want progress) none in
    subst (λ p. left_of later p + 1 ≤ left_of rules progress) (sym free) (by (is_asking want progress) refl wanted)
  where
    by : (b : Bool) → is_asking want progress ≡ b → need_of want progress ≡ need_in progress.phase want progress → left_of later (took_in progress.phase want progress reference) + 1 ≤ left_of rules progress
    by true asks wanted = heard_less progress.phase want progress reference rules later asks (asked asks)
    by false asks wanted =
        subst (λ p. left_of later p + 1 ≤ left_of rules progress) (sym (took_counted progress.phase want progress reference asks))
        (counted_left progress.phase want progress rules later refl asks (answers_act (need_of want progress) answer reference progress.phase want progress wanted fits no_release asks) less)

-- ---- a reference given back

gave_in : {R : Type 0} (phase : Phase) (want : Want) (progress : Progress R) (slot : Slot) (entry : ℕ × R) (rules : ℕ) → need_in phase want progress ≡ needs.Release slot → held_at progress.held slot ≡ Some entry
    → phase_left phase rules (record progress { held = held_with progress.held slot None; given = None }) + 1 ≤ phase_left phase rules progress
gave_in New want progress slot entry rules is at = absurd (no_release want is)
  where
    counts : (o : Option (Slot × Act)) → counting o needs.Turn ≡ needs.Release slot → ⊥
    counts None is = cc
    counts (Some e) is = cc

    no_release : (want : Want) → judging want progress ≡ needs.Release slot → ⊥
    no_release (wants.Done Accept) is = counts (slice_get (sessions (holding progress.held)) progress.counted) is
    no_release (wants.Done Reject) is = cc
    no_release (wants.Get t k) is = cc
    no_release (wants.Track s t k) is = cc
    no_release (wants.Look s) is = cc
    no_release (wants.Count s a) is = cc
gave_in Judging want progress slot entry rules is at = absurd (no_release want is)
  where
    counts : (o : Option (Slot × Act)) → counting o needs.Turn ≡ needs.Release slot → ⊥
    counts None is = cc
    counts (Some e) is = cc

    no_release : (want : Want) → judging want progress ≡ needs.Release slot → ⊥
    no_release (wants.Done Accept) is = counts (slice_get (sessions (holding progress.held)) progress.counted) is
    no_release (wants.Done Reject) is = cc
    no_release (wants.Get t k) is = cc
    no_release (wants.Track s t k) is = cc
    no_release (wants.Look s) is = cc
    no_release (wants.Count s a) is = cc
gave_in Admitted want progress slot entry rules is at = closed progress.bytes is
  where
    closed : (bytes : Option (ℕ × ℕ)) → closing bytes progress ≡ needs.Release slot → closing_left bytes (record progress { held = held_with progress.held slot None; given = None }) + 1 ≤ closing_left bytes progress
    closed None is = cc
    closed (Some bytes) is = omega (arith, without_shorter progress.held slot (ap is_some at))
gave_in Rejected want progress slot entry rules is at = omega (arith, without_shorter progress.held slot (ap is_some at))
gave_in Ended want progress slot entry rules is at = cc

pub gave_less : {R : Type 0} (want : Want) (progress : Progress R) (slot : Slot) (entry : ℕ × R) (rules : ℕ) → progress.given ≡ None → need_of want progress ≡ needs.Release slot → held_at progress.held slot ≡ Some entry
    → left_of rules (took_of want (gave_of (needs.Release slot) progress) None) + 1 ≤ left_of rules progress
unfolding need_of took_of
gave_less want progress slot entry rules none is at =
    let gave : took_of want (gave_of (needs.Release slot) progress) None ≡ record progress { held = held_with progress.held slot None; given = None } = ap (λ o. took_of want (gave_at slot o progress) None) at in
    subst (λ p. left_of rules p + 1 ≤ left_of rules progress) (sym gave) (gave_in progress.phase want progress slot entry rules (sym (ap (λ g. need_given g want progress) none) ∙ is) at)

-- ---- a refusal

-- what is refused is an act, or what the rules ask
skips_act : (wanted : Need) → is_event wanted ≡ true → is_release wanted ≡ false → of_rules wanted ≡ false → some_act wanted ≡ true
skips_act (needs.Count slot act) event no_release rules = refl
skips_act (needs.Release slot) event no_release rules = absurd (false≢true (sym no_release))
skips_act (needs.Get t k) event no_release rules = absurd (false≢true (sym rules))
skips_act (needs.Track s t k) event no_release rules = absurd (false≢true (sym rules))
skips_act (needs.Look s) event no_release rules = absurd (false≢true (sym rules))
skips_act needs.Rest event no_release rules = absurd (false≢true event)
skips_act needs.Turn event no_release rules = absurd (false≢true event)
skips_act needs.Finished event no_release rules = absurd (false≢true event)

skipped_is : {R : Type 0} (wanted : Need) (progress : Progress R) → some_act wanted ≡ true → skipped wanted progress ≡ record progress { counted = progress.counted + 1 }
skipped_is (needs.Count slot act) progress act_is = refl
skipped_is (needs.Release slot) progress act_is = absurd (false≢true act_is)
skipped_is (needs.Get t k) progress act_is = absurd (false≢true act_is)
skipped_is (needs.Track s t k) progress act_is = absurd (false≢true act_is)
skipped_is (needs.Look s) progress act_is = absurd (false≢true act_is)
skipped_is needs.Rest progress act_is = absurd (false≢true act_is)
skipped_is needs.Turn progress act_is = absurd (false≢true act_is)
skipped_is needs.Finished progress act_is = absurd (false≢true act_is)

asking_large : {R : Type 0} (phase : Phase) (want : Want) (progress : Progress R) (rules : ℕ) → (Rattle.admit_core.specs.Connection.is_judged phase && not (is_done want)) ≡ true → 20 ≤ phase_left phase rules progress
asking_large New want progress rules asks = omega arith
asking_large Judging want progress rules asks = omega arith
asking_large Admitted want progress rules asks = absurd (false≢true asks)
asking_large Rejected want progress rules asks = absurd (false≢true asks)
asking_large Ended want progress rules asks = absurd (false≢true asks)

pub refused_less : {R : Type 0} (want : Want) (progress : Progress R) (rules later : ℕ) → progress.given ≡ None → is_event (need_of want progress) ≡ true → is_release (need_of want progress) ≡ false → later ≡ rules
    → left_of later (refused_of want progress None) + 1 ≤ left_of rules progress
unfolding need_of refused_of
refused_less {R} want progress rules later none event no_release same =
    let free : refused_of want progress None ≡ refused_before (is_asking want progress) (need_of want progress) progress = ap (λ g. refused_given g want progress None) none in
    let wanted : need_of want progress ≡ need_in progress.phase want progress = ap (λ g. need_given g want progress) none in
    subst (λ p. left_of later p + 1 ≤ left_of rules progress) (sym free) (by (is_asking want progress) refl wanted)
  where
    by : (b : Bool) → is_asking want progress ≡ b → need_of want progress ≡ need_in progress.phase want progress → left_of later (refused_before b (need_of want progress) progress) + 1 ≤ left_of rules progress
    by true asks wanted = omega (arith, holding-few progress.held, asking_large progress.phase want progress rules asks)
    by false asks wanted =
        let act : some_act (need_of want progress) ≡ true = skips_act (need_of want progress) event no_release (ap of_rules wanted ∙ no_rules progress.phase want progress asks) in
        subst (λ p. left_of later p + 1 ≤ left_of rules progress) (sym (skipped_is (need_of want progress) progress act))
        (counted_left progress.phase want progress rules later refl asks (ap some_act (sym wanted) ∙ act) (omega (arith, same)))
