-- Texts of configurations whose first rules limit the connections of an address.
use Rattle.std.specs.Prelude.{◌≡◌, ◌≤◌, ◌^◌, ℕ, Bool, true, false, Some, Ok, List, [], ◌∷◌, ◌++◌, drop, length, codes}
use Rattle.std.specs.List.{list_any}
use Rattle.std.specs.Str.{bytes_eq}
use Rattle.base_lines.specs.Number.{number_of}
use Rattle.stored_data.specs.Stored.{is_column}
use Rattle.stored_data.specs.declared.datum.Datum.TheVariants.{ConnCur}
use Rattle.rule_model.specs.Served.{has_frontend, setup_of}
use Rattle.rule_model.specs.declared.sections.Config.{Config}
use Rattle.rule_model.specs.declared.sections.Section.{Section}
use Rattle.rule_model.specs.declared.sections.TableSpec.{TableSpec}
use Rattle.rule_words.specs.Lines.{first_word, lines_of, words_of}
use Rattle.rule_eval.specs.Limit.{LimitsFirst}
use Rattle.rule_config.specs.Config.{config_of, read_of}
use Rattle.rule_config.specs.declared.reading.Place.TheVariants.{Inside}
use Rattle.rule_config.specs.declared.reading.Reading.{Reading}
use Rattle.rule_config.specs.declared.statements.OpenSection.{OpenSection}

-- tcp-request connection track-sc0 src
abbrev pub tracking_words : List (List ℕ)
tracking_words = codes "tcp-request" ∷ codes "connection" ∷ codes "track-sc0" ∷ codes "src" ∷ []

-- tcp-request connection reject if { sc0_conn_cur gt NUMBER }
abbrev pub refusing_words : List ℕ → List (List ℕ)
refusing_words number =
    codes "tcp-request" ∷ codes "connection" ∷ codes "reject" ∷ codes "if" ∷ codes "{" ∷ codes "sc0_conn_cur" ∷ codes "gt" ∷ number ∷ codes "}" ∷ []

-- whether track-sc0 stands where a rule's action would
abbrev pub says_track_sc0 : List ℕ → Bool
says_track_sc0 line = bytes_eq (first_word (drop 2 (words_of line))) (codes "track-sc0")

-- a section of this name is open, the first one with a frontend; its table stores conn_cur, and it has no rule yet
pub record AwaitsRules (read : Reading) (name : List ℕ) : Type 0 where
  pub current : OpenSection
  pub place : read.place ≡ Inside current
  pub name_is : current.section.name ≡ name
  pub frontend : has_frontend current.section.kind ≡ true
  pub first : list_any (λ (section : Section). has_frontend section.kind) read.sections ≡ false
  pub table : TableSpec
  pub table_is : current.section.table ≡ Some table
  pub stored : is_column table.columns ConnCur ≡ true
  pub no_rules : current.section.rules ≡ []

-- some lines that come to such a section, then the two that limit, and none behind them that tracks by sc0
pub record LimitsByText (text name : List ℕ) (limit : ℕ) : Type 0 where
  pub before : List (List ℕ)
  pub track : List ℕ
  pub refuse : List ℕ
  pub later : List (List ℕ)
  pub lines : lines_of text ≡ before ++ track ∷ refuse ∷ later
  pub read : Reading
  pub read_is : read_of before ≡ Ok read
  pub awaits : AwaitsRules read name
  pub track_is : words_of track ≡ tracking_words
  pub number : List ℕ
  pub refuse_is : words_of refuse ≡ refusing_words number
  pub limit_is : number_of number ≡ Some limit
  pub others : list_any says_track_sc0 later ≡ false

-- where such a text has no fault, the rules that are served limit first
abbrev pub LimitTextLaw : Type 0
LimitTextLaw = (text name : List ℕ) (limit shards : ℕ) (config : Config) →
    LimitsByText text name limit → config_of text ≡ Ok config → length config.sections ≤ 2 ^ 32 → (table : ℕ) × LimitsFirst (setup_of config shards) name table limit
