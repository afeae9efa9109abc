-- What is served of a configuration.
use Rattle.std.specs.Prelude.{ℕ, ◌^◌, ◌≤◌, ◌<◌, Bool, true, false, ◌&&◌, ltb, List, [], map, Option, Some, None, IfSome, All}
use Rattle.std.specs.List.{find, filter_map}
use Rattle.std.specs.Option.{option_or, option_map, option_and_then}
use Rattle.std.specs.Str.{bytes_eq}
use Rattle.rule_addresses.specs.Prefix.{whole}
use Rattle.rule_addresses.specs.declared.address.Endpoint.{Endpoint}
use Rattle.rule_addresses.specs.declared.masking.Prefixes.{Prefixes}
use Rattle.stick_model.specs.declared.specification.Spec.{Spec}
use Rattle.stick_model.specs.Limits.{IsKeyType, IsTableSpec}
use Rattle.rule_model.specs.declared.sections.SectionKind.{SectionKind}
use Rattle.rule_model.specs.declared.sections.SectionKind.TheVariants.{Frontend, Backend, Listen}
use Rattle.rule_model.specs.declared.sections.TableSpec.{TableSpec}
use Rattle.rule_model.specs.declared.sections.Section.{Section}
use Rattle.rule_model.specs.declared.sections.Config.{Config}
use Rattle.rule_model.specs.declared.sections.NamedSpec.{NamedSpec}
use Rattle.rule_model.specs.declared.sections.Setup.{Setup}

-- a listen section is a frontend and a backend
abbrev pub has_frontend : SectionKind → Bool
has_frontend Frontend = true
has_frontend Backend = false
has_frontend Listen = true

abbrev pub has_backend : SectionKind → Bool
has_backend Frontend = false
has_backend Backend = true
has_backend Listen = true

-- ---- tables

-- how a declared table is made
abbrev pub spec_of : TableSpec → Spec
spec_of table = record { kind = table.kind; size = table.size; expire = table.expire; nopurge = table.nopurge; purge = 1; columns = table.columns; max_refs = 65536; life = 2 ^ 62; seed = 0 }

-- a section's table, under the section's name
abbrev pub table_of : Section → Option NamedSpec
table_of section = option_map (λ table. record { name = section.name; spec = spec_of table }) section.table

-- the tables, in order of declaration
abbrev pub tables_of : List Section → List NamedSpec
tables_of sections = filter_map table_of sections

-- what a table may be declared with
pub record IsTable (table : TableSpec) : Type 0 where
  pub kind : IsKeyType table.kind
  pub size : (1 ≤ table.size) × (table.size ≤ 2 ^ 30)
  pub expire : IfSome table.expire (λ life. (1 ≤ life) × (life < 2 ^ 31))

abbrev pub AreTables : List Section → Type 0
AreTables sections = All (λ (section : Section). IfSome section.table IsTable) sections

abbrev pub AreTableSpecs : List NamedSpec → Type 0
AreTableSpecs tables = All (λ (named : NamedSpec). IsTableSpec named.spec) tables

-- ---- the proxy

-- the first section that has a frontend
abbrev pub proxy_of : List Section → Option Section
proxy_of sections = find (λ section. has_frontend section.kind) sections

-- the section of a name that has a backend
abbrev pub backend_named : List Section → List ℕ → Option Section
backend_named sections name = find (λ section. has_backend section.kind && bytes_eq section.name name) sections

-- its own server, or that of its default backend where it has none
abbrev pub server_of : List Section → Section → Option Endpoint
server_of sections proxy = option_or proxy.server (option_and_then (λ name. option_and_then (λ (section : Section). section.server) (backend_named sections name)) proxy.default_backend)

-- the tables and the proxy, with whole sources as keys; without a proxy there are no rules, and nothing to listen at or connect to
abbrev pub setup_with : List Section → ℕ → Option Section → Setup
setup_with sections shards None = record { tables = tables_of sections; rules = []; bind = None; server = None; shards = shards; prefixes = whole }
setup_with sections shards (Some proxy) = record { tables = tables_of sections; rules = proxy.rules; bind = proxy.bind; server = server_of sections proxy; shards = shards; prefixes = whole }

unfoldable pub setup_of : Config → ℕ → Setup
setup_of config shards = setup_with config.sections shards (proxy_of config.sections)

-- the same, each table, where it is full, removing so many of its oldest entries for a new one
abbrev pub named_with_purge : ℕ → NamedSpec → NamedSpec
named_with_purge purge named = record named { spec = record named.spec { purge = purge } }

abbrev pub with_purge : ℕ → Setup → Setup
with_purge purge setup = record setup { tables = map (named_with_purge purge) setup.tables }

-- the same, with so many of a source's first bits where it is a key
abbrev pub with_prefixes : Prefixes → Setup → Setup
with_prefixes prefixes setup = record setup { prefixes = prefixes }

-- the first table that has fewer places than there are shards
abbrev pub narrow_table_of : Setup → Option NamedSpec
narrow_table_of setup = find (λ (named : NamedSpec). ltb named.spec.size setup.shards) setup.tables
