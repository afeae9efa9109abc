-- The tables of a setup, and the keys that a connection gives them.
use Rattle.std.specs.Prelude.{ℕ, ◌^◌, nat_lt, Bool, true, false, List, Option, Some, None, is_some, position, slice_get, if◌then◌else◌}
use Rattle.std.specs.Option.{option_map}
use Rattle.std.specs.Str.{bytes_eq}
use Rattle.rule_addresses.specs.Prefix.{masked}
use Rattle.rule_addresses.specs.declared.address.Address.{Address}
use Rattle.rule_addresses.specs.declared.address.Address.TheVariants as addresses
use Rattle.rule_addresses.specs.declared.masking.Prefixes.{Prefixes}
use Rattle.stick_key.specs.Convert.{converted}
use Rattle.stick_key.specs.declared.kind.KeyType.{KeyType}
use Rattle.stick_key.specs.declared.sample.Sample.{Sample}
use Rattle.stick_key.specs.declared.sample.Sample.TheVariants as samples
use Rattle.stored_data.specs.Fields.{field_for, is_field}
use Rattle.stored_data.specs.declared.datum.Datum.{Datum}
use Rattle.stored_data.specs.declared.field.Field.{Field}
use Rattle.stick_model.specs.Key.{Key}
use Rattle.rule_model.specs.declared.actions.KeyExpression.{KeyExpression}
use Rattle.rule_model.specs.declared.actions.KeyExpression.TheVariants as keys
use Rattle.rule_model.specs.declared.criteria.Fetch.{Fetch}
use Rattle.rule_model.specs.declared.criteria.Fetch.TheVariants as fetches
use Rattle.rule_model.specs.declared.sections.NamedSpec.{NamedSpec}
use Rattle.rule_model.specs.declared.sections.Setup.{Setup}
use Rattle.rule_eval.specs.declared.wants.Samples.{Samples}

-- ---- tables

-- the numbers of tables have 32 bits
abbrev pub in_32_bits : Option ℕ → Option ℕ
in_32_bits None = None
in_32_bits (Some n) = if nat_lt n (2 ^ 32) then Some n else None

-- the number of a table: the place of the first one of its name
abbrev pub table_number : Setup → List ℕ → Option ℕ
table_number setup name = in_32_bits (position (λ named. bytes_eq named.name name) setup.tables)

-- what the keys of a table are
abbrev pub kind_of : Setup → ℕ → Option KeyType
kind_of setup table = option_map (λ named. named.spec.kind) (slice_get setup.tables table)

-- whether a table stores a field, and whether it stores the one that a datum's fetches mean
abbrev pub has_field : Option NamedSpec → Field → Bool
has_field None field = false
has_field (Some named) field = is_field named.spec.columns field

abbrev pub has_datum : Option NamedSpec → Datum → Bool
has_datum None datum = false
has_datum (Some named) datum = is_some (field_for named.spec.columns datum)

-- whether a table stores what is read: all have references
abbrev pub stores : Setup → ℕ → Fetch → Bool
stores setup table (fetches.Datum datum) = has_datum (slice_get setup.tables table) datum
stores setup table (fetches.Kilobytes datum) = has_datum (slice_get setup.tables table) datum
stores setup table (fetches.Element field) = has_field (slice_get setup.tables table) field
stores setup table fetches.Trackers = true

-- ---- keys

abbrev pub address_sample : Address → Sample
address_sample (addresses.V4 address) = samples.V4 address
address_sample (addresses.V6 address) = samples.V6 address

-- the sample that a key is made of; of a source that is what the prefixes leave of it
abbrev pub sample_of : Prefixes → Samples → KeyExpression → Sample
sample_of prefixes known keys.Source = address_sample (masked prefixes known.src)
sample_of prefixes known keys.SourcePort = samples.Number known.src_port
sample_of prefixes known keys.DestinationPort = samples.Number known.dst_port
sample_of prefixes known (keys.Integer number) = samples.Number number
sample_of prefixes known (keys.Text text) = samples.Text text

abbrev pub key_in : Sample → Option KeyType → Option Key
key_in sample None = None
key_in sample (Some kind) = converted sample kind

-- the key that an expression gives a table, if it can be converted
abbrev pub key_of : Setup → Samples → KeyExpression → ℕ → Option Key
key_of setup known expression table = key_in (sample_of setup.prefixes known expression) (kind_of setup table)
