-- Worked examples of configurations and their faults.
use Rattle.std.specs.Prelude.{◌≡◌, ℕ, false, List, [], ◌∷◌, ◌++◌, map, codes, Some, None, Result, Ok, Err}
use Rattle.std.specs.List.{flat_map}
use Rattle.stored_data.specs.declared.datum.Datum.TheVariants.{ConnCur}
use Rattle.stored_data.specs.declared.stored_set.Column.{Column}
use Rattle.rule_model.specs.Served.{tables_of}
use Rattle.rule_model.specs.declared.actions.Action.TheVariants.{Reject, Track}
use Rattle.rule_model.specs.declared.actions.KeyExpression.TheVariants.{Source}
use Rattle.rule_model.specs.declared.actions.Slot.TheVariants.{Sc0}
use Rattle.rule_model.specs.declared.criteria.Criterion.TheVariants as criteria
use Rattle.rule_model.specs.declared.criteria.Fetch.TheVariants.{Datum}
use Rattle.rule_model.specs.declared.criteria.Measure.TheVariants.{Tracked}
use Rattle.rule_model.specs.declared.criteria.Operator.TheVariants.{Gt}
use Rattle.rule_model.specs.declared.criteria.Pattern.TheVariants.{Compare}
use Rattle.rule_model.specs.declared.faults.Fault.{Fault}
use Rattle.rule_model.specs.declared.faults.Fault.TheVariants.{BadCondition, BadNumber, BadSize, UnknownAcl, UnknownTable, UnknownType}
use Rattle.rule_model.specs.declared.sections.Config.{Config}
use Rattle.rule_model.specs.declared.sections.NamedSpec.{NamedSpec}
use Rattle.rule_model.specs.declared.rules.Rule.{Rule}
use Rattle.rule_model.specs.declared.sections.Section.{Section}
use Rattle.rule_config.specs.Config.{config_of}

-- a frontend of one line
abbrev pub frontend : List ℕ → List ℕ
frontend line = codes "frontend www\n" ++ line

-- and behind a table
abbrev pub with_table : List ℕ → List ℕ
with_table line = codes "frontend www\nstick-table type ip size 10 store conn_cur\n" ++ line

-- the rules of all sections
abbrev pub rules_of : Result Config (ℕ × Fault) → List Rule
rules_of (Ok config) = flat_map (λ (section : Section). section.rules) config.sections
rules_of (Err fault) = []

-- the name and the columns of each table
abbrev pub tables_in : Result Config (ℕ × Fault) → List (List ℕ × List Column)
tables_in (Ok config) = map (λ (named : NamedSpec). (named.name, named.spec.columns)) (tables_of config.sections)
tables_in (Err fault) = []

-- track-sc0 src, and reject if { sc0_conn_cur gt 1 }
abbrev pub limiting : List ℕ
limiting = with_table (codes "tcp-request connection track-sc0 src\ntcp-request connection reject if { sc0_conn_cur gt 1 }")

-- each fault has its line; what isn't declared is found behind all lines, and has the line that needs it. The rules of
-- the last one let each address have one connection at a time
pub record ExamplesLaw : Type 0 where
  pub size : config_of (frontend (codes "stick-table type ip size 2g")) ≡ Err (2, BadSize)
  pub time : config_of (frontend (codes "stick-table type ip size 10 expire 25d")) ≡ Err (2, BadNumber)
  pub rate_without_period : config_of (frontend (codes "stick-table type ip size 10 store conn_rate")) ≡ Err (2, UnknownType)
  pub range_under_gt : config_of (with_table (codes "tcp-request connection reject if { src_port gt 1:2 }")) ≡ Err (3, BadCondition)
  pub unknown_acl : config_of (with_table (codes "tcp-request connection reject if worse")) ≡ Err (3, UnknownAcl)
  pub unknown_table : config_of (with_table (codes "tcp-request connection track-sc0 src table u\n")) ≡ Err (3, UnknownTable)
  pub unknown_backend : config_of (frontend (codes "default_backend c\n")) ≡ Err (2, UnknownTable)
  pub limit_table : tables_in (config_of limiting) ≡ (codes "www", record { datum = ConnCur; period = 0; count = 0 } ∷ []) ∷ []
  pub limit : rules_of (config_of limiting)
      ≡ record { action = Track Sc0 Source (codes "www"); unless = false; condition = None }
      ∷ record { action = Reject; unless = false; condition = Some ((record { negated = false; criteria = criteria.Matches (Tracked Sc0 (Datum ConnCur)) (Compare Gt 1 ∷ []) ∷ [] } ∷ []) ∷ []) }
      ∷ []
