-- What a rule says that never comes to anything, whatever connection it judges.
use Rattle.std.specs.Prelude.{ℕ, ◌+◌, nat_le, Bool, true, false, not, ◌&&◌, if◌then◌else◌, List, [], ◌∷◌, ◌++◌, length, Option, Some, None, is_some}
use Rattle.std.specs.List.{find, list_any}
use Rattle.std.specs.Option.{option_map, option_or}
use Rattle.std.specs.Str.{bytes_eq}
use Rattle.rule_addresses.specs.declared.address.Address.{Address}
use Rattle.rule_addresses.specs.declared.address.Address.TheVariants.{V4, V6}
use Rattle.rule_addresses.specs.declared.address.Endpoint.{Endpoint}
use Rattle.rule_addresses.specs.declared.address.Network.{Network}
use Rattle.stick_key.specs.Ipv6Printed.{is_mapped}
use Rattle.stick_key.specs.declared.kind.KeyType.{KeyType}
use Rattle.stick_key.specs.declared.kind.KeyType.TheVariants as kinds
use Rattle.stored_data.specs.Fields.{field_for, is_field}
use Rattle.stored_data.specs.declared.act.Act.{Act}
use Rattle.stored_data.specs.declared.act.Act.TheVariants.{IncGpc0, IncGpc1, ClrGpc0, ClrGpc1, IncGpc}
use Rattle.stored_data.specs.declared.datum.Datum.TheVariants.{Gpc0, Gpc1, Gpc}
use Rattle.rule_model.specs.declared.actions.Action.{Action}
use Rattle.rule_model.specs.declared.actions.Action.TheVariants as actions
use Rattle.rule_model.specs.declared.actions.KeyExpression.{KeyExpression}
use Rattle.rule_model.specs.declared.actions.KeyExpression.TheVariants as keys
use Rattle.rule_model.specs.declared.actions.Slot.{Slot}
use Rattle.rule_model.specs.declared.criteria.Criterion.{Criterion}
use Rattle.rule_model.specs.declared.criteria.Criterion.TheVariants as criteria
use Rattle.rule_model.specs.declared.criteria.Fetch.{Fetch}
use Rattle.rule_model.specs.declared.criteria.Fetch.TheVariants as fetches
use Rattle.rule_model.specs.declared.criteria.Measure.{Measure}
use Rattle.rule_model.specs.declared.criteria.Measure.TheVariants as measures
use Rattle.rule_model.specs.declared.rules.Rule.{Rule}
use Rattle.rule_model.specs.declared.rules.Term.{Term}
use Rattle.rule_model.specs.declared.sections.NamedSpec.{NamedSpec}
use Rattle.rule_model.specs.declared.sections.Setup.{Setup}
use Rattle.rule_warnings.specs.Limits.{is_guarded}
use Rattle.rule_warnings.specs.Untracked.{same_slot}
use Rattle.rule_warnings.specs.declared.warning.Unread.{Unread}
use Rattle.rule_warnings.specs.declared.warning.Unread.TheVariants as unread
use Rattle.rule_warnings.specs.declared.warning.Warning.{Warning}
use Rattle.rule_warnings.specs.declared.warning.Warning.TheVariants.{NeverKey, UntrackedIpv6, MappedPattern, NeverRead}

-- the table of a name
abbrev pub table_named : List NamedSpec → List ℕ → Option NamedSpec
table_named tables name = find (λ (named : NamedSpec). bytes_eq named.name name) tables

-- whether clients come with IPv6 addresses, those of IPv4 with mapped ones: where the listener is bound to an IPv6 address
abbrev pub is_ipv6 : Address → Bool
is_ipv6 (V4 bytes) = false
is_ipv6 (V6 bytes) = true

abbrev pub binds_ipv6 : Option Endpoint → Bool
binds_ipv6 None = false
binds_ipv6 (Some endpoint) = is_ipv6 endpoint.address

-- ---- keys

abbrev pub takes_addresses : KeyType → Bool
takes_addresses kinds.Ip = true
takes_addresses kinds.Ipv6 = true
takes_addresses kinds.Integer = false
takes_addresses (kinds.Text n) = true
takes_addresses (kinds.Binary n) = true

abbrev pub takes_numbers : KeyType → Bool
takes_numbers kinds.Ip = false
takes_numbers kinds.Ipv6 = false
takes_numbers kinds.Integer = true
takes_numbers (kinds.Text n) = true
takes_numbers (kinds.Binary n) = true

abbrev pub takes_texts : KeyType → Bool
takes_texts kinds.Ip = false
takes_texts kinds.Ipv6 = false
takes_texts kinds.Integer = false
takes_texts (kinds.Text n) = true
takes_texts (kinds.Binary n) = true

-- whether an expression gives a table of this type a key, of some connection at least
abbrev pub can_be_key : KeyType → KeyExpression → Bool
can_be_key kind keys.Source = takes_addresses kind
can_be_key kind keys.SourcePort = takes_numbers kind
can_be_key kind keys.DestinationPort = takes_numbers kind
can_be_key kind (keys.Integer number) = takes_numbers kind
can_be_key kind (keys.Text text) = takes_texts kind

abbrev pub is_source : KeyExpression → Bool
is_source keys.Source = true
is_source keys.SourcePort = false
is_source keys.DestinationPort = false
is_source (keys.Integer number) = false
is_source (keys.Text text) = false

abbrev pub is_ip : KeyType → Bool
is_ip kinds.Ip = true
is_ip kinds.Ipv6 = false
is_ip kinds.Integer = false
is_ip (kinds.Text n) = false
is_ip (kinds.Binary n) = false

-- of what a rule of this number tracks in a table of this type: it is never a key; or clients of IPv6 come, it is no key of theirs, and
-- no rule turns away what the slot doesn't track there
abbrev pub key_warning_by : Bool → Bool → ℕ → Slot → KeyExpression → KeyType → Option Warning
key_warning_by ipv6 guarded number slot key kind =
    if not (can_be_key kind key) then Some (NeverKey number slot kind)
    else if ipv6 && is_source key && is_ip kind && not guarded then Some (UntrackedIpv6 number slot)
    else None

abbrev pub key_warning_in : Bool → List Rule → ℕ → Slot → KeyExpression → Option NamedSpec → Option Warning
key_warning_in ipv6 rules number slot key None = None
key_warning_in ipv6 rules number slot key (Some named) = key_warning_by ipv6 (is_guarded named.name slot rules) number slot key named.spec.kind

unfoldable pub key_warning : Bool → Setup → ℕ → Action → Option Warning
key_warning ipv6 setup number actions.Accept = None
key_warning ipv6 setup number actions.Reject = None
key_warning ipv6 setup number (actions.Track slot key table) = key_warning_in ipv6 setup.rules number slot key (table_named setup.tables table)
key_warning ipv6 setup number (actions.Count slot act) = None

-- ---- patterns

-- whether all addresses of a network are mapped ones
abbrev pub is_mapped_network : Network → Bool
is_mapped_network network = elim network.address [ V4 bytes ↦ false | V6 bytes ↦ nat_le 96 network.length && is_mapped bytes ]

abbrev pub has_mapped : Criterion → Bool
has_mapped (criteria.Always value) = false
has_mapped (criteria.IsTracked slot) = false
has_mapped (criteria.Source networks) = list_any is_mapped_network networks
has_mapped (criteria.Matches measure patterns) = false

abbrev pub term_has_mapped : Term → Bool
term_has_mapped term = list_any has_mapped term.criteria

abbrev pub condition_has_mapped : Option (List (List Term)) → Bool
condition_has_mapped None = false
condition_has_mapped (Some conjunctions) = list_any (list_any term_has_mapped) conjunctions

-- such a pattern holds no IPv4 address; where clients of IPv4 come with mapped ones it does
unfoldable pub pattern_warning : Bool → ℕ → Rule → Option Warning
pattern_warning ipv6 number rule = if condition_has_mapped rule.condition && not ipv6 then Some (MappedPattern number) else None

-- ---- data

-- whether a table stores what is read; all have references
abbrev pub has : NamedSpec → Fetch → Bool
has named (fetches.Datum datum) = is_some (field_for named.spec.columns datum)
has named (fetches.Kilobytes datum) = is_some (field_for named.spec.columns datum)
has named (fetches.Element field) = is_field named.spec.columns field
has named fetches.Trackers = true

abbrev pub has_in : Option NamedSpec → Fetch → Bool
has_in None fetch = false
has_in (Some named) fetch = has named fetch

-- what an act that a criterion names reads as it counts; no criterion names another act
abbrev pub counted_by : Act → Option Fetch
counted_by IncGpc0 = Some (fetches.Datum Gpc0)
counted_by IncGpc1 = Some (fetches.Datum Gpc1)
counted_by ClrGpc0 = Some (fetches.Datum Gpc0)
counted_by ClrGpc1 = Some (fetches.Datum Gpc1)
counted_by (IncGpc index) = Some (fetches.Element (record { datum = Gpc; index = index }))
counted_by _ = None

-- whether a rule tracks by the slot in a table that stores what is read
abbrev pub tracks_with : List NamedSpec → Slot → Fetch → Rule → Bool
tracks_with tables slot fetch rule = elim rule.action [
  | actions.Accept ↦ false
  | actions.Reject ↦ false
  | actions.Track tracking key table ↦ same_slot tracking slot && has_in (table_named tables table) fetch
  | actions.Count counting act ↦ false
]

-- what is read by a slot that no rule in front tracks in such a table
abbrev pub unread_by_slot : List NamedSpec → List Rule → Slot → Fetch → Option Unread
unread_by_slot tables before slot fetch = if list_any (tracks_with tables slot fetch) before then None else Some (unread.BySlot slot fetch)

abbrev pub unread_by_act : List NamedSpec → List Rule → Slot → Option Fetch → Option Unread
unread_by_act tables before slot None = None
unread_by_act tables before slot (Some fetch) = unread_by_slot tables before slot fetch

-- what is read of the source in a table that doesn't store it, or of which no address is a key
abbrev pub unread_of_source : Option NamedSpec → Fetch → Option Unread
unread_of_source None fetch = Some (unread.OfSource fetch)
unread_of_source (Some named) fetch =
    if not (has named fetch) then Some (unread.OfSource fetch)
    else if takes_addresses named.spec.kind then None
    else Some (unread.NoKey named.spec.kind)

-- an integer that no connection has, by the rules in front
abbrev pub unread_measure : List NamedSpec → List Rule → Measure → Option Unread
unread_measure tables before measures.SourcePort = None
unread_measure tables before measures.DestinationPort = None
unread_measure tables before (measures.Tracked slot fetch) = unread_by_slot tables before slot fetch
unread_measure tables before (measures.Counted slot act) = unread_by_act tables before slot (counted_by act)
unread_measure tables before (measures.Source table fetch) = unread_of_source (table_named tables table) fetch

abbrev pub unread_of : List NamedSpec → List Rule → Criterion → Option Unread
unread_of tables before (criteria.Always value) = None
unread_of tables before (criteria.IsTracked slot) = None
unread_of tables before (criteria.Source networks) = None
unread_of tables before (criteria.Matches measure patterns) = unread_measure tables before measure

-- the first that is there
abbrev pub first_of : {X Y : Type 0} → (X → Option Y) → List X → Option Y
first_of f [] = None
first_of f (x ∷ xs) = option_or (f x) (first_of f xs)

abbrev pub unread_in_term : List NamedSpec → List Rule → Term → Option Unread
unread_in_term tables before term = first_of (unread_of tables before) term.criteria

abbrev pub unread_in_terms : List NamedSpec → List Rule → List Term → Option Unread
unread_in_terms tables before terms = first_of (unread_in_term tables before) terms

abbrev pub unread_in : List NamedSpec → List Rule → Option (List (List Term)) → Option Unread
unread_in tables before None = None
unread_in tables before (Some conjunctions) = first_of (unread_in_terms tables before) conjunctions

unfoldable pub data_warning : Setup → ℕ → List Rule → Rule → Option Warning
data_warning setup number before rule = option_map (NeverRead number) (unread_in setup.tables before rule.condition)

-- ---- all

abbrev pub listed : Option Warning → List Warning
listed None = []
listed (Some warning) = warning ∷ []

-- of a rule behind others, where clients come with IPv6 addresses or with IPv4 ones alone: its key, its patterns, and the first of its
-- criteria that reads what isn't there
abbrev pub warnings_of_rule : Bool → Setup → List Rule → Rule → List Warning
warnings_of_rule ipv6 setup before rule =
    listed (key_warning ipv6 setup (length before + 1) rule.action)
    ++ listed (pattern_warning ipv6 (length before + 1) rule)
    ++ listed (data_warning setup (length before + 1) before rule)

-- of rules behind others, in order
abbrev pub warnings_behind : Bool → Setup → List Rule → List Rule → List Warning
warnings_behind ipv6 setup before [] = []
warnings_behind ipv6 setup before (rule ∷ more) = warnings_of_rule ipv6 setup before rule ++ warnings_behind ipv6 setup (before ++ rule ∷ []) more

abbrev pub rule_warnings : Bool → Setup → List Warning
rule_warnings ipv6 setup = warnings_behind ipv6 setup [] setup.rules
