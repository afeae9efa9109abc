-- Which wants take memory.
use Rattle.std.specs.Prelude.{Bool, true, false, ◌||◌, Option, Some, None}
use Rattle.stick_key.specs.Convert.{takes_memory}
use Rattle.stick_key.specs.declared.kind.KeyType.{KeyType}
use Rattle.stick_key.specs.declared.kind.KeyType.TheVariants.{Ip, Ipv6, Integer, Text, Binary}
use Rattle.rule_model.specs.declared.actions.KeyExpression.{KeyExpression}
use Rattle.rule_model.specs.declared.actions.KeyExpression.TheVariants as keys
use Rattle.rule_model.specs.declared.sections.Setup.{Setup}
use Rattle.rule_eval.specs.Tables.{kind_of}
use Rattle.rule_eval.specs.declared.wants.Want.{Want}
use Rattle.rule_eval.specs.declared.wants.Want.TheVariants.{Get, Track}

-- whether a text may be a key of this kind
abbrev pub takes_texts : KeyType → Bool
takes_texts (Text n) = true
takes_texts (Binary n) = true
takes_texts Ip = false
takes_texts Ipv6 = false
takes_texts Integer = false

-- only a key that is made of a text, or converted with memory, takes any
abbrev pub kind_takes_memory : Option KeyType → Bool
kind_takes_memory None = false
kind_takes_memory (Some kind) = takes_texts kind || takes_memory kind

abbrev pub want_takes_memory : Setup → Want → Bool
want_takes_memory setup (Get table key) = kind_takes_memory (kind_of setup table)
want_takes_memory setup (Track slot table key) = kind_takes_memory (kind_of setup table)
want_takes_memory setup want = false

-- whether an expression is a text, of which a copy is made
abbrev pub is_text : KeyExpression → Bool
is_text (keys.Text text) = true
is_text expression = false
