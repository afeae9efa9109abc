-- What is served without a configuration: one table, t, in so many shards, which tracks where connections come from.
use Rattle.std.specs.Prelude.{ℕ, ◌^◌, false, None, [], ◌∷◌, codes}
use Rattle.rule_addresses.specs.Prefix.{whole}
use Rattle.stick_key.specs.declared.kind.KeyType.TheVariants.{Ip}
use Rattle.stored_data.specs.declared.datum.Datum.TheVariants.{Gpc0}
use Rattle.rule_model.specs.declared.actions.Action.TheVariants.{Track}
use Rattle.rule_model.specs.declared.actions.KeyExpression.TheVariants.{Source}
use Rattle.rule_model.specs.declared.actions.Slot.TheVariants.{Sc0}
use Rattle.rule_model.specs.declared.sections.Setup.{Setup}

-- listen t
--     stick-table type ip size 100 store gpc0
--     tcp-request connection track-sc0 src
abbrev pub built_in : ℕ → Setup
built_in shards = record {
  tables = record {
    name = codes "t";
    spec = record { kind = Ip; size = 100; expire = None; nopurge = false; purge = 1; columns = record { datum = Gpc0; period = 0; count = 0 } ∷ []; max_refs = 65536; life = 2 ^ 62; seed = 0 };
  } ∷ [];
  rules = record { action = Track Sc0 Source (codes "t"); unless = false; condition = None } ∷ [];
  bind = None;
  server = None;
  shards = shards;
  prefixes = whole;
}
