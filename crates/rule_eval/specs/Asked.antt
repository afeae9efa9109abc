-- What kind of want is next, apart from its key.
use Rattle.rule_eval.specs.declared.wants.Asked.{Asked}
use Rattle.rule_eval.specs.declared.wants.Asked.TheVariants.{Event, Reference, Decided}
use Rattle.rule_eval.specs.declared.wants.Want.{Want}
use Rattle.rule_eval.specs.declared.wants.Want.TheVariants.{Get, Track, Look, Count, Done}

abbrev pub asked_by : Want → Asked
asked_by (Get table key) = Event
asked_by (Track slot table key) = Reference slot table
asked_by (Look slot) = Event
asked_by (Count slot act) = Event
asked_by (Done verdict) = Decided verdict
