-- What is to be said as the proxy starts.
use Rattle.std.specs.Prelude.{ℕ, Bool, ◌+◌, ◌*◌, ◌-◌, ◌/◌, ◌==◌, nat_le, nat_lt, not, ◌&&◌, if◌then◌else◌, List, [], ◌∷◌, ◌++◌, drop, slice_index, Option, Some, None}
use Rattle.std.specs.List.{filter_map}
use Rattle.std.specs.Option.{option_map}
use Rattle.std.specs.Str.{bytes_eq}
use Rattle.stick_key.specs.Ipv6Printed.{is_mapped}
use Rattle.rule_addresses.specs.declared.address.Address.{Address}
use Rattle.rule_addresses.specs.declared.address.Address.TheVariants.{V4, V6}
use Rattle.rule_addresses.specs.declared.address.Endpoint.{Endpoint}
use Rattle.rule_model.specs.declared.actions.Slot.{Slot}
use Rattle.rule_model.specs.declared.actions.Slot.TheVariants.{Sc0, Sc1, Sc2}
use Rattle.rule_model.specs.declared.sections.NamedSpec.{NamedSpec}
use Rattle.rule_model.specs.declared.sections.Setup.{Setup}
use Rattle.rule_warnings.specs.Limits.{failing, is_always_tracked}
use Rattle.rule_warnings.specs.NoEffect.{binds_ipv6, listed, rule_warnings}
use Rattle.rule_warnings.specs.declared.descriptors.StartPlan.{StartPlan}
use Rattle.rule_warnings.specs.declared.warning.Warning.{Warning}
use Rattle.rule_warnings.specs.declared.warning.Warning.TheVariants.{FewDescriptors, NoTimeout, OpenMetrics, FailsOpen, WideShards}

-- ---- descriptors

-- two for each connection, three for each thread, the listener, the command socket and its clients, the three standard
-- streams, and ten to spare
abbrev pub descriptors_wanted : StartPlan → ℕ
descriptors_wanted plan = 2 * plan.connections + 3 * plan.threads + 1 + 1 + plan.socket_clients + 3 + 10

abbrev pub few_of : StartPlan → Option ℕ → Option Warning
few_of plan None = None
few_of plan (Some allowed) =
    if nat_lt allowed (descriptors_wanted plan) then Some (FewDescriptors (descriptors_wanted plan) allowed plan.connections plan.threads) else None

abbrev pub descriptor_warning : StartPlan → Option Warning
descriptor_warning plan = few_of plan plan.descriptors

-- ---- timeouts

abbrev pub timeout_warning : StartPlan → Option Warning
timeout_warning plan =
    if plan.has_client_timeout && plan.has_server_timeout then None else Some (NoTimeout (not plan.has_client_timeout) (not plan.has_server_timeout))

-- ---- metrics

-- 127.0.0.0/8 (RFC 1122, section 3.2.1.3), and ::1 (RFC 4291, section 2.5.3); mapped addresses stand for IPv4 ones
abbrev pub is_loopback : Address → Bool
is_loopback (V4 bytes) = slice_index bytes 0 == 127
is_loopback (V6 bytes) =
    if is_mapped bytes then slice_index (drop 12 bytes) 0 == 127
    else bytes_eq bytes (0 ∷ 0 ∷ 0 ∷ 0 ∷ 0 ∷ 0 ∷ 0 ∷ 0 ∷ 0 ∷ 0 ∷ 0 ∷ 0 ∷ 0 ∷ 0 ∷ 0 ∷ 1 ∷ [])

-- whoever can connect there reads them
abbrev pub metrics_warning : Option Endpoint → Option Warning
metrics_warning None = None
metrics_warning (Some place) = if is_loopback place.address then None else Some (OpenMetrics place)

-- ---- limits

unfoldable pub limit_warning : ℕ → Setup → Slot → NamedSpec → Option Warning
limit_warning connections setup slot named =
    option_map (λ shortage. FailsOpen slot named.name (is_always_tracked named.name slot setup.rules) shortage)
    (failing connections setup.shards setup.rules slot named)

abbrev pub limit_warnings : ℕ → Setup → Slot → List Warning
limit_warnings connections setup slot = filter_map (limit_warning connections setup slot) setup.tables

-- ---- shards

-- how many places a shard has at most, so that its lock isn't held for long
abbrev pub most_places : ℕ
most_places = 102400

-- in how many shards none has more, of at most 64
abbrev pub shards_for : ℕ → Option ℕ
shards_for size = if nat_le size (64 * most_places) then Some ((size + (most_places - 1)) / most_places) else None

abbrev pub shard_warning : ℕ → NamedSpec → Option Warning
shard_warning shards named =
    if nat_lt (shards * most_places) named.spec.size then
    Some (WideShards named.name ((named.spec.size + (shards - 1)) / shards) (shards_for named.spec.size))
    else
    None

abbrev pub shard_warnings : Setup → List Warning
shard_warnings setup = filter_map (shard_warning setup.shards) setup.tables

-- ---- all

-- of the rules and the tables, for so many connections, from IPv6 addresses or from IPv4 ones alone: what rules say that comes to nothing,
-- in order; the limits by sc0, sc1 and sc2, and the shards, each in order of declaration
abbrev pub table_warnings_where : Bool → ℕ → Setup → List Warning
table_warnings_where ipv6 connections setup =
    rule_warnings ipv6 setup
    ++ limit_warnings connections setup Sc0 ++ limit_warnings connections setup Sc1 ++ limit_warnings connections setup Sc2 ++ shard_warnings setup

-- the same, of clients that come to the file's own bind
abbrev pub table_warnings : ℕ → Setup → List Warning
table_warnings connections setup = table_warnings_where (binds_ipv6 setup.bind) connections setup

-- of a start, whose clients come to where it really listens
abbrev pub warnings_of : Setup → StartPlan → List Warning
warnings_of setup plan =
    listed (descriptor_warning plan) ++ listed (timeout_warning plan) ++ listed (metrics_warning plan.metrics)
    ++ table_warnings_where plan.takes_ipv6 plan.connections setup
