-- What rules follow those of the start, as the file of the start is read again.
use Rattle.std.specs.Prelude.{ℕ, ◌∷◌, [], List, min, max, ⊤}
use Rattle.rule_change.specs.Changes.{IsFirstChange, IsWhy}
use Rattle.rule_config.specs.Config.{FailsAt, config_of}
use Rattle.rule_model.specs.Served.{setup_of, with_prefixes, with_purge}
use Rattle.rule_model.specs.declared.sections.Config.{Config}
use Rattle.rule_model.specs.declared.sections.NamedSpec.{NamedSpec}
use Rattle.rule_model.specs.declared.sections.Setup.{Setup}
use Rattle.rule_words.specs.Lines.{lines_of}
use Rattle.tcp_proxy.specs.declared.next_version.Unfit.{Unfit}
use Rattle.tcp_proxy.specs.declared.next_version.Unfit.TheVariants.{Faulty, Changed, Memory}

-- how many of its oldest entries a full table removes at once: as many of each table, 1 to 1,024
abbrev pub purge_of : List NamedSpec → ℕ
purge_of [] = 1
purge_of (named ∷ more) = min 1024 (max 1 named.spec.purge)

-- what a configuration serves, by the options of the start
abbrev pub served_anew : Setup → Config → Setup
served_anew first config = with_prefixes first.prefixes (with_purge (purge_of first.tables) (setup_of config first.shards))

-- why a text says no configuration: its first fault, or a growth was refused
abbrev pub IsFaultOf : List ℕ → Unfit → Type 0
IsFaultOf text (Faulty fault) = FailsAt (lines_of text) fault.line fault.kind (config_of text)
IsFaultOf text (Changed reason) = ⊥
IsFaultOf text Memory = ⊤

-- why the rules of a configuration can't follow those of the start: the first change that takes a restart, or a growth was refused
abbrev pub IsChangeOf : Setup → Config → Unfit → Type 0
IsChangeOf first config (Faulty fault) = ⊥
IsChangeOf first config (Changed reason) = IsWhy (IsFirstChange first (served_anew first config)) reason
IsChangeOf first config Memory = ⊤
