-- What a configuration that is read again changes, of what stays as it was until a restart.
use Rattle.std.specs.Prelude.{◌≡◌, ◌≢◌, ℕ, List, Option, Some, None, is_some, true, All, take, slice_get, ⊤}
use Rattle.std.specs.List.{find}
use Rattle.std.specs.Str.{bytes_eq}
use Rattle.stick_model.specs.declared.specification.Spec.{Spec}
use Rattle.rule_model.specs.declared.sections.NamedSpec.{NamedSpec}
use Rattle.rule_model.specs.declared.sections.Setup.{Setup}
use Rattle.rule_change.specs.declared.change.Part.{Part}
use Rattle.rule_change.specs.declared.change.Part.TheVariants.{Kind, Size, Expire, Nopurge, Columns, Purge}
use Rattle.rule_change.specs.declared.change.Change.{Change}
use Rattle.rule_change.specs.declared.change.Change.TheVariants.{NoBind, NoServer, Bind, Shards, Prefixes, TableGone, TableChanges, TableNew}
use Rattle.rule_change.specs.declared.change.NotRenewed.{NotRenewed}
use Rattle.rule_change.specs.declared.change.NotRenewed.TheVariants as reasons

-- ---- how a table is made

-- a table is made as it was, whatever its hashes are made with
pub record IsMadeAlike (first read : Spec) : Type 0 where
  pub kind : read.kind ≡ first.kind
  pub size : read.size ≡ first.size
  pub expire : read.expire ≡ first.expire
  pub nopurge : read.nopurge ≡ first.nopurge
  pub columns : read.columns ≡ first.columns
  pub purge : read.purge ≡ first.purge

-- of how a table is made, this part is the first that changes
abbrev pub ChangesFirst : Part → Spec → Spec → Type 0
ChangesFirst Kind first read = read.kind ≢ first.kind
ChangesFirst Size first read = (read.kind ≡ first.kind) × (read.size ≢ first.size)
ChangesFirst Expire first read = (read.kind ≡ first.kind) × (read.size ≡ first.size) × (read.expire ≢ first.expire)
ChangesFirst Nopurge first read =
    (read.kind ≡ first.kind) × (read.size ≡ first.size) × (read.expire ≡ first.expire) × (read.nopurge ≢ first.nopurge)
ChangesFirst Columns first read =
    (read.kind ≡ first.kind) × (read.size ≡ first.size) × (read.expire ≡ first.expire) × (read.nopurge ≡ first.nopurge)
    × (read.columns ≢ first.columns)
ChangesFirst Purge first read =
    (read.kind ≡ first.kind) × (read.size ≡ first.size) × (read.expire ≡ first.expire) × (read.nopurge ≡ first.nopurge)
    × (read.columns ≡ first.columns) × (read.purge ≢ first.purge)

-- ---- tables

-- the first table of a name
abbrev pub table_named : List NamedSpec → List ℕ → Option NamedSpec
table_named tables name = find (λ (named : NamedSpec). bytes_eq named.name name) tables

-- a table of the first is made alike by what was read, wherever its section stands there
abbrev pub IsMadeBy : NamedSpec → Option NamedSpec → Type 0
IsMadeBy named None = ⊥
IsMadeBy named (Some other) = IsMadeAlike named.spec other.spec

abbrev pub IsKept : List NamedSpec → NamedSpec → Type 0
IsKept read named = IsMadeBy named (table_named read named.name)

-- a table that was read has the name of one of the first's
abbrev pub IsKnown : List NamedSpec → NamedSpec → Type 0
IsKnown first named = is_some (table_named first named.name) ≡ true

-- this part of a table of the first is the first that another one changes
abbrev pub IsOtherIn : Part → NamedSpec → Option NamedSpec → Type 0
IsOtherIn part named None = ⊥
IsOtherIn part named (Some other) = ChangesFirst part named.spec other.spec

-- what changes of a table of the first: it is gone, or made otherwise
abbrev pub IsLost : List NamedSpec → NamedSpec → Change → Type 0
IsLost read named (TableGone name) = (name ≡ named.name) × (table_named read named.name ≡ None)
IsLost read named (TableChanges name part) = (name ≡ named.name) × IsOtherIn part named (table_named read named.name)
IsLost read named change = ⊥

-- a table that was read is none of the first's
abbrev pub IsAdded : List NamedSpec → NamedSpec → Change → Type 0
IsAdded first named (TableNew name) = (name ≡ named.name) × (table_named first named.name ≡ None)
IsAdded first named change = ⊥

-- a change of one of these tables, where those before it are in order
pub record IsFirstOf (InOrder : NamedSpec → Type 0) (Changes : NamedSpec → Change → Type 0) (tables : List NamedSpec) (change : Change) : Type 0 where
  pub place : ℕ
  pub named : NamedSpec
  pub there : slice_get tables place ≡ Some named
  pub before : All InOrder (take place tables)
  pub changed : Changes named change

-- ---- setups

-- clients come where they came, there is a server, and shards and prefixes are what they were
pub record ServesAlike (first read : Setup) : Type 0 where
  pub is_bound : is_some read.bind ≡ true
  pub server : is_some read.server ≡ true
  pub bind : read.bind ≡ first.bind
  pub shards : read.shards ≡ first.shards
  pub prefixes : read.prefixes ≡ first.prefixes

-- nothing changes that stays until a restart
pub record IsRenewable (first read : Setup) : Type 0 where
  pub serves : ServesAlike first read
  pub kept : All (IsKept read.tables) first.tables
  pub known : All (IsKnown first.tables) read.tables

-- the first change of what stays until a restart: where clients come and go, then the tables of the first, then those that are new
abbrev pub IsFirstChange : Setup → Setup → Change → Type 0
IsFirstChange first read NoBind = read.bind ≡ None
IsFirstChange first read NoServer = (is_some read.bind ≡ true) × (read.server ≡ None)
IsFirstChange first read Bind = (is_some read.bind ≡ true) × (is_some read.server ≡ true) × (read.bind ≢ first.bind)
IsFirstChange first read Shards =
    (is_some read.bind ≡ true) × (is_some read.server ≡ true) × (read.bind ≡ first.bind) × (read.shards ≢ first.shards)
IsFirstChange first read Prefixes =
    (is_some read.bind ≡ true) × (is_some read.server ≡ true) × (read.bind ≡ first.bind) × (read.shards ≡ first.shards)
    × (read.prefixes ≢ first.prefixes)
IsFirstChange first read (TableGone name) =
    ServesAlike first read × IsFirstOf (IsKept read.tables) (IsLost read.tables) first.tables (TableGone name)
IsFirstChange first read (TableChanges name part) =
    ServesAlike first read × IsFirstOf (IsKept read.tables) (IsLost read.tables) first.tables (TableChanges name part)
IsFirstChange first read (TableNew name) =
    ServesAlike first read × All (IsKept read.tables) first.tables
    × IsFirstOf (IsKnown first.tables) (IsAdded first.tables) read.tables (TableNew name)

-- why there is no next version: such a change, or a growth was refused
abbrev pub IsWhy : (Change → Type 0) → NotRenewed → Type 0
IsWhy Is (reasons.Change change) = Is change
IsWhy Is reasons.Memory = ⊤
