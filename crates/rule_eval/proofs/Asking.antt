-- What criteria and actions ask, case by case.
use Rattle.std.proofs.Common.{◌≡◌, ℕ, Bool, true, false, nat_lt, is_some, List, length, Option, Some, None, refl, ap, if◌then◌else◌}
use Rattle.stick_model.specs.Key.{Key}
use Rattle.rule_model.specs.declared.actions.Action.{Action}
use Rattle.rule_model.specs.declared.actions.Action.TheVariants as actions
use Rattle.rule_model.specs.declared.actions.KeyExpression.{KeyExpression}
use Rattle.rule_model.specs.declared.actions.KeyExpression.TheVariants as keys
use Rattle.rule_model.specs.declared.actions.Slot.{Slot}
use Rattle.rule_model.specs.declared.criteria.Criterion.{Criterion}
use Rattle.rule_model.specs.declared.criteria.Criterion.TheVariants as criteria
use Rattle.rule_model.specs.declared.criteria.Fetch.{Fetch}
use Rattle.rule_model.specs.declared.criteria.Measure.{Measure}
use Rattle.rule_model.specs.declared.criteria.Measure.TheVariants as measures
use Rattle.rule_model.specs.declared.sections.Setup.{Setup}
use Rattle.stored_data.specs.declared.act.Act.{Act}
use Rattle.rule_eval.specs.Readings.{matches_any, read_of}
use Rattle.rule_eval.specs.Slots.{slot_of}
use Rattle.rule_eval.specs.Tables.{table_number, stores, key_of}
use Rattle.rule_eval.specs.Verdict.{Inquiry, known, asks, then_of, Outcome, ends, goes_on, looked, counted, shown_of, source_shown, measured, judged, slots_after, tracked_by, tracked_in, acted, effect}
use Rattle.rule_eval.specs.declared.slots.Slots.{Slots}
use Rattle.rule_eval.specs.declared.wants.Answer.{Answer}
use Rattle.rule_eval.specs.declared.wants.Samples.{Samples}
use Rattle.rule_eval.specs.declared.wants.Want.{Want}
use Rattle.rule_eval.specs.declared.wants.Want.TheVariants.{Get, Track, Look, Count}
use Rattle.rule_eval.proofs.Ready.{key_table}

-- what is asked, if anything, is allowed
abbrev pub Asks : {A : Type 0} → (Want → Type 0) → Inquiry A → Type 0
Asks Allowed (known a) = Unit {0}
Asks Allowed (asks want reading) = Allowed want

-- an answer changes no slot
abbrev pub Stays : Slots → Want → Type 0
Stays slots want = (answer : Answer) → slots_after slots want answer ≡ slots

-- an action goes on with the slots after its answer
abbrev pub GoesOn : Slots → Inquiry Outcome → Type 0
GoesOn slots (known (ends verdict)) = Unit {0}
GoesOn slots (known (goes_on later)) = later ≡ slots
GoesOn slots (asks want reading) = (answer : Answer) → reading answer ≡ goes_on (slots_after slots want answer)

-- ---- criteria look and count where a slot tracks, and read rows of tables of the setup

module _ (Allowed : Want → Type 0) (setup : Setup) (samples : Samples) (slots : Slots)
    (on_look : (slot : Slot) → is_some (slot_of slots slot) ≡ true → Allowed (Look slot))
    (on_count : (slot : Slot) (act : Act) → is_some (slot_of slots slot) ≡ true → Allowed (Count slot act))
    (on_get : (table : ℕ) (key : Key) → nat_lt table (length setup.tables) ≡ true → Allowed (Get table key)) where
  then_asks : {A B : Type 0} (f : A → B) (inquiry : Inquiry A) → Asks Allowed inquiry → Asks Allowed (then_of f inquiry)
  then_asks f (known a) allowed = tt
  then_asks f (asks want reading) allowed = allowed

  look_asks : (b : Bool) (slot : Slot) (reading : Answer → Option ℕ) → is_some (slot_of slots slot) ≡ true → Asks Allowed (if b then asks (Look slot) reading else known None)
  look_asks true slot reading tracks = on_look slot tracks
  look_asks false slot reading tracks = tt

  looked_asks : (slot : Slot) (held : Option ℕ) (fetch : Fetch) → slot_of slots slot ≡ held → Asks Allowed (looked setup slot held fetch)
  looked_asks slot None fetch is = tt
  looked_asks slot (Some table) fetch is = look_asks (stores setup table fetch) slot (read_of fetch) (ap is_some is)

  counted_asks : (slot : Slot) (held : Option ℕ) (act : Act) → slot_of slots slot ≡ held → Asks Allowed (counted slot held act)
  counted_asks slot None act is = tt
  counted_asks slot (Some table) act is = on_count slot act (ap is_some is)

  shown_asks : (b : Bool) (table : ℕ) (key : Option Key) (fetch : Fetch) → key_of setup samples keys.Source table ≡ key → Asks Allowed (if b then shown_of table key fetch else known None)
  shown_asks true table None fetch is = tt
  shown_asks true table (Some key) fetch is = on_get table key (key_table setup samples keys.Source table (ap is_some is))
  shown_asks false table key fetch is = tt

  source_asks : (table : Option ℕ) (fetch : Fetch) → Asks Allowed (source_shown setup samples table fetch)
  source_asks None fetch = tt
  source_asks (Some table) fetch = shown_asks (stores setup table fetch) table (key_of setup samples keys.Source table) fetch refl

  measured_asks : (measure : Measure) → Asks Allowed (measured setup samples slots measure)
  measured_asks measures.SourcePort = tt
  measured_asks measures.DestinationPort = tt
  measured_asks (measures.Tracked slot fetch) = looked_asks slot (slot_of slots slot) fetch refl
  measured_asks (measures.Counted slot act) = counted_asks slot (slot_of slots slot) act refl
  measured_asks (measures.Source table fetch) = source_asks (table_number setup table) fetch

  pub judged_asks : (criterion : Criterion) → Asks Allowed (judged setup samples slots criterion)
  unfolding judged
  judged_asks (criteria.Always value) = tt
  judged_asks (criteria.IsTracked slot) = tt
  judged_asks (criteria.Source networks) = tt
  judged_asks (criteria.Matches measure patterns) = then_asks (matches_any patterns) (measured setup samples slots measure) (measured_asks measure)

pub judged_stays : (setup : Setup) (samples : Samples) (slots : Slots) (criterion : Criterion) → Asks (Stays slots) (judged setup samples slots criterion)
judged_stays setup samples slots criterion =
    judged_asks (Stays slots) setup samples slots (λ slot tracks answer. refl) (λ slot act tracks answer. refl) (λ table key there answer. refl) criterion

-- ---- actions count where a slot tracks, and ask for a reference where it doesn't

module _ (Allowed : Want → Type 0) (setup : Setup) (samples : Samples) (slots : Slots) (action : Action)
    (on_count : (slot : Slot) (act : Act) → is_some (slot_of slots slot) ≡ true → Allowed (Count slot act))
    (on_track : (slot : Slot) (expression : KeyExpression) (name : List ℕ) (table : ℕ) (key : Key) →
    action ≡ actions.Track slot expression name → is_some (slot_of slots slot) ≡ false → nat_lt table (length setup.tables) ≡ true → Allowed (Track slot table key)) where
  tracked_by-asks : (slot : Slot) (expression : KeyExpression) (name : List ℕ) (held : Option ℕ) (table : ℕ) (key : Option Key) →
      action ≡ actions.Track slot expression name → slot_of slots slot ≡ held → key_of setup samples expression table ≡ key → Asks Allowed (tracked_by slots slot held table key)
  tracked_by-asks slot expression name (Some held) table key here is made = tt
  tracked_by-asks slot expression name None table None here is made = tt
  tracked_by-asks slot expression name None table (Some key) here is made = on_track slot expression name table key here (ap is_some is) (key_table setup samples expression table (ap is_some made))

  tracked_in-asks : (slot : Slot) (expression : KeyExpression) (name : List ℕ) (table : Option ℕ) → action ≡ actions.Track slot expression name → Asks Allowed (tracked_in setup samples slots slot expression table)
  tracked_in-asks slot expression name None here = tt
  tracked_in-asks slot expression name (Some table) here = tracked_by-asks slot expression name (slot_of slots slot) table (key_of setup samples expression table) here refl refl

  acted_asks : (slot : Slot) (held : Option ℕ) (act : Act) → slot_of slots slot ≡ held → Asks Allowed (acted slots slot held act)
  acted_asks slot None act is = tt
  acted_asks slot (Some table) act is = on_count slot act (ap is_some is)

  asks_at : (same : Action) → action ≡ same → Asks Allowed (effect setup samples slots same)
  unfolding effect
  asks_at actions.Accept here = tt
  asks_at actions.Reject here = tt
  asks_at (actions.Track slot expression name) here = tracked_in-asks slot expression name (table_number setup name) here
  asks_at (actions.Count slot act) here = acted_asks slot (slot_of slots slot) act refl

  pub effect_asks : Asks Allowed (effect setup samples slots action)
  effect_asks = asks_at action refl

tracked_by-goes_on : (slots : Slots) (slot : Slot) (held : Option ℕ) (table : ℕ) (key : Option Key) → GoesOn slots (tracked_by slots slot held table key)
tracked_by-goes_on slots slot (Some held) table key = refl
tracked_by-goes_on slots slot None table None = refl
tracked_by-goes_on slots slot None table (Some key) = λ answer. refl

tracked_in-goes_on : (setup : Setup) (samples : Samples) (slots : Slots) (slot : Slot) (expression : KeyExpression) (table : Option ℕ) → GoesOn slots (tracked_in setup samples slots slot expression table)
tracked_in-goes_on setup samples slots slot expression None = refl
tracked_in-goes_on setup samples slots slot expression (Some table) = tracked_by-goes_on slots slot (slot_of slots slot) table (key_of setup samples expression table)

acted_goes_on : (slots : Slots) (slot : Slot) (held : Option ℕ) (act : Act) → GoesOn slots (acted slots slot held act)
acted_goes_on slots slot None act = refl
acted_goes_on slots slot (Some table) act = λ answer. refl

pub effect_goes_on : (setup : Setup) (samples : Samples) (slots : Slots) (action : Action) → GoesOn slots (effect setup samples slots action)
unfolding effect
effect_goes_on setup samples slots actions.Accept = tt
effect_goes_on setup samples slots actions.Reject = tt
effect_goes_on setup samples slots (actions.Track slot expression name) = tracked_in-goes_on setup samples slots slot expression (table_number setup name)
effect_goes_on setup samples slots (actions.Count slot act) = acted_goes_on slots slot (slot_of slots slot) act
