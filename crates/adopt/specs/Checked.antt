-- What stickd takes.
use Rattle.std.specs.Prelude.{◌≡◌, ℕ, List, [], Ok}
use Rattle.rule_model.specs.declared.sections.Config.{Config}
use Rattle.rule_config.specs.Config.{config_of}

-- a text that is read as a configuration, without a fault and without a warning
abbrev pub IsTaken : List ℕ → Type 0
IsTaken text = (config : Config) × (config_of text ≡ Ok config) × (config.warnings ≡ [])
