-- The versions of a setup: what may judge where another was opened, and what follows of a configuration that is read again.
use Rattle.std.specs.Prelude.{◌≡◌, true, is_some}
use Rattle.rule_model.specs.declared.sections.Setup.{Setup}

-- a setup that may judge where another was opened: the same tables in as many shards, keys cut alike, and there is a server
pub record IsVersionOf (first setup : Setup) : Type 0 where
  pub tables : setup.tables ≡ first.tables
  pub shards : setup.shards ≡ first.shards
  pub prefixes : setup.prefixes ≡ first.prefixes
  pub bind : setup.bind ≡ first.bind
  pub server : is_some setup.server ≡ true

-- the first, with the rules and the server of what was read
abbrev pub renewed : Setup → Setup → Setup
renewed first read = record first { rules = read.rules; server = read.server }
