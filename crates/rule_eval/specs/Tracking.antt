-- What every want keeps to: which tables there are, and which slots track after the answers so far.
use Rattle.std.specs.Prelude.{◌≡◌, nat_lt, Bool, true, not, is_some, List, [], ◌∷◌, length}
use Rattle.rule_model.specs.declared.sections.Setup.{Setup}
use Rattle.rule_eval.specs.Slots.{slot_of, no_slots}
use Rattle.rule_eval.specs.Verdict.{Course, next, slots_after}
use Rattle.rule_eval.specs.declared.slots.Slots.{Slots}
use Rattle.rule_eval.specs.declared.wants.Answer.{Answer}
use Rattle.rule_eval.specs.declared.wants.Samples.{Samples}
use Rattle.rule_eval.specs.declared.wants.Want.{Want}
use Rattle.rule_eval.specs.declared.wants.Want.TheVariants.{Get, Track, Look, Count}

-- whether a want tracks no slot that tracks already
abbrev pub is_free : Slots → Want → Bool
is_free slots (Track slot table key) = not (is_some (slot_of slots slot))
is_free slots want = true

-- whether a slot that is looked at, or whose entry is counted in, tracks one
abbrev pub is_tracking : Slots → Want → Bool
is_tracking slots (Look slot) = is_some (slot_of slots slot)
is_tracking slots (Count slot act) = is_some (slot_of slots slot)
is_tracking slots want = true

-- whether the table that is named is one of the setup's
abbrev pub names_table : Setup → Want → Bool
names_table setup (Get table key) = nat_lt table (length setup.tables)
names_table setup (Track slot table key) = nat_lt table (length setup.tables)
names_table setup want = true

-- what the slots track after some answers, each to what was wanted behind those before it
abbrev pub slots_from : Course → Slots → List Answer → Slots
slots_from course slots [] = slots
slots_from course slots (answer ∷ more) = slots_from (λ later. course (answer ∷ later)) (slots_after slots (course []) answer) more

abbrev pub slots_by : Setup → Samples → List Answer → Slots
slots_by setup samples answers = slots_from (next setup samples) no_slots answers

-- ---- laws

-- a reference is wanted only for a slot that tracks nothing yet
abbrev pub FreeLaw : Type 0
FreeLaw = (setup : Setup) (samples : Samples) (answers : List Answer) → is_free (slots_by setup samples answers) (next setup samples answers) ≡ true

-- only a slot that tracks an entry is looked at or counted in
abbrev pub TrackingLaw : Type 0
TrackingLaw = (setup : Setup) (samples : Samples) (answers : List Answer) → is_tracking (slots_by setup samples answers) (next setup samples answers) ≡ true

-- only a table of the setup is asked for a row or for a reference
abbrev pub TablesLaw : Type 0
TablesLaw = (setup : Setup) (samples : Samples) (answers : List Answer) → names_table setup (next setup samples answers) ≡ true
