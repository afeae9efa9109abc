-- A text that limits each address to 20 connections.
use Rattle.std.specs.Prelude.{◌≡◌, ℕ, List, ◌++◌, codes, Ok}
use Rattle.rule_model.specs.Served.{setup_of}
use Rattle.rule_model.specs.declared.sections.Config.{Config}
use Rattle.rule_eval.specs.Limit.{LimitsFirst}
use Rattle.rule_config.specs.Config.{config_of}
use Rattle.rule_config.specs.Text.{LimitsByText}

-- the example examples/connection-limit.cfg, without its comments
abbrev pub limiting : List ℕ
limiting =
    codes "frontend www\n"
    ++ codes "    bind :8080\n"
    ++ codes "    stick-table type ip size 100k expire 10m store conn_cur\n"
    ++ codes "    tcp-request connection track-sc0 src\n"
    ++ codes "    tcp-request connection reject if { sc0_conn_cur gt 20 }\n"
    ++ codes "    default_backend app\n"
    ++ codes "backend app\n"
    ++ codes "    server app1 127.0.0.1:9000\n"

-- it has no fault, and what is served of it limits to 20
pub record ExampleLaw : Type 0 where
  pub by_text : LimitsByText limiting (codes "www") 20
  pub config : Config
  pub is_said : config_of limiting ≡ Ok config
  pub served : (shards : ℕ) → (table : ℕ) × LimitsFirst (setup_of config shards) (codes "www") table 20
