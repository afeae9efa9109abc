-- Worked examples of rules that limit current connections, which the checker computes.
use Rattle.std.specs.Prelude.{refl, ◌≡◌, ℕ, ◌^◌, false, [], ◌∷◌, codes, None}
use Rattle.stick_key.specs.declared.kind.KeyType.TheVariants.{Ip}
use Rattle.stored_data.specs.Fields.{plain, same_field}
use Rattle.stored_data.specs.declared.datum.Datum.TheVariants.{ConnCur}
use Rattle.rule_addresses.specs.Prefix.{masked, whole}
use Rattle.rule_addresses.specs.declared.address.Address.TheVariants.{V4}
use Rattle.stick_model.specs.Key.{Key}
use Rattle.stick_model.specs.declared.rows.Row.{Row}
use Rattle.stick_model.specs.declared.specification.Spec.{Spec}
use Rattle.rule_model.specs.declared.actions.Slot.TheVariants.{Sc0}
use Rattle.rule_model.specs.declared.sections.Setup.{Setup}
use Rattle.rule_eval.specs.Limit.{LimitsFirst, refusing_rule, tracking_rule}
use Rattle.rule_eval.specs.Verdict.{effect, judged, next}
use Rattle.rule_eval.specs.declared.wants.Answer.TheVariants as answers
use Rattle.rule_eval.specs.declared.wants.Samples.{Samples}
use Rattle.rule_eval.specs.declared.wants.Verdict.TheVariants.{Accept, Reject}
use Rattle.rule_eval.specs.declared.wants.Want.TheVariants.{Done, Look, Track}

-- ten addresses with their current connections
abbrev pub addresses : Spec
addresses = record { kind = Ip; size = 10; expire = None; nopurge = false; purge = 1; columns = record { datum = ConnCur; period = 0; count = 0 } ∷ []; max_refs = 65536; life = 2 ^ 62; seed = 0 }

-- track-sc0 src, and reject if { sc0_conn_cur gt 1 }
abbrev pub one_each : Setup
one_each = record { tables = record { name = codes "www"; spec = addresses } ∷ []; rules = tracking_rule (codes "www") ∷ refusing_rule 1 ∷ []; bind = None; server = None; shards = 1; prefixes = whole }

abbrev pub client : Samples
client = record { src = V4 (10 ∷ 0 ∷ 0 ∷ 1 ∷ []); src_port = 40001; dst_port = 80 }

abbrev pub client_key : Key
client_key = 10 ∷ 0 ∷ 0 ∷ 1 ∷ []

-- the client's row, with so many references
abbrev pub shown : ℕ → Row
shown count = record { key = client_key; refs = count; left = 0; cells = record { field = plain ConnCur; value = count } ∷ [] }

one_each-limits : LimitsFirst one_each (codes "www") 0 1
one_each-limits = record { later = []; begin = refl; named = refl; stored = refl; others = tt }

wants-reference : next one_each client [] ≡ Track Sc0 0 client_key
unfolding masked effect
wants-reference = refl

-- where 24 bits of an IPv4 source count, what is tracked is its network
wants-network : next (record one_each { prefixes = record { ipv4 = 24; ipv6 = 64 } }) client [] ≡ Track Sc0 0 (10 ∷ 0 ∷ 0 ∷ 0 ∷ [])
unfolding masked effect
wants-network = refl

wants-look : next one_each client (answers.Tracked ∷ []) ≡ Look Sc0
unfolding masked effect judged
wants-look = refl

within-limit : next one_each client (answers.Tracked ∷ answers.Row (shown 1) ∷ []) ≡ Done Accept
unfolding masked effect judged same_field
within-limit = refl

beyond-limit : next one_each client (answers.Tracked ∷ answers.Row (shown 2) ∷ []) ≡ Done Reject
unfolding masked effect judged same_field
beyond-limit = refl

-- a full table tracks nothing, and then there is nothing to compare
without-reference : next one_each client (answers.Untracked ∷ []) ≡ Done Accept
unfolding masked effect judged
without-reference = refl
