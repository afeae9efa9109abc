-- What a line of a section says.
use Rattle.std.specs.Prelude.{ℕ, Bool, true, false, not, ◌||◌, Option, Some, None, is_some, Result, Ok, Err, List, [], ◌∷◌, codes, if◌then◌else◌}
use Rattle.std.specs.Str.{bytes_eq}
use Rattle.rule_addresses.specs.Addresses.{bind_of, server_of}
use Rattle.rule_model.specs.Reading.{◌>>=◌, demand}
use Rattle.rule_model.specs.Served.{has_frontend, has_backend}
use Rattle.rule_model.specs.declared.sections.SectionKind.{SectionKind}
use Rattle.rule_model.specs.declared.sections.SectionKind.TheVariants.{Frontend, Backend, Listen}
use Rattle.rule_model.specs.declared.sections.Section.{Section}
use Rattle.rule_model.specs.declared.faults.Fault.{Fault}
use Rattle.rule_model.specs.declared.faults.Fault.TheVariants.{UnknownKeyword, SecondName, SecondServer, ModeHttp}
use Rattle.rule_words.specs.Lines.{first_word, other_words}
use Rattle.rule_words.specs.Names.{is_name}
use Rattle.rule_words.specs.Table.{found, once, table_of}
use Rattle.rule_words.specs.Conditions.{criterion_of}
use Rattle.rule_config.specs.Actions.{rule_of}
use Rattle.rule_config.specs.declared.statements.OpenSection.{OpenSection}
use Rattle.rule_config.specs.declared.statements.Statement.{Statement}
use Rattle.rule_config.specs.declared.statements.Statement.TheVariants.{Nothing, StickTable, Bind, Server, DefaultBackend, Acl, Rule}

abbrev pub is_end : List (List ℕ) → Bool
is_end [] = true
is_end (word ∷ words) = false

-- the line ends here
abbrev pub no_more : List (List ℕ) → Result (Unit {0}) Fault
no_more words = demand (is_end words) UnknownKeyword

-- mode tcp
unfoldable pub mode_says : List (List ℕ) → Result Statement Fault
mode_says words = do
  tcp ← demand (not (bytes_eq (first_word words) (codes "http"))) ModeHttp
  known ← demand (bytes_eq (first_word words) (codes "tcp")) UnknownKeyword
  ended ← no_more (other_words words)
  Ok Nothing

-- bind A:P
unfoldable pub bind_says : Section → List (List ℕ) → Result Statement Fault
bind_says section words = do
  placed ← demand (has_frontend section.kind) UnknownKeyword
  first ← once section.bind
  endpoint ← found (bind_of (first_word words)) UnknownKeyword
  ended ← no_more (other_words words)
  Ok (Bind endpoint)

-- server NAME A:P, and words that are read past
unfoldable pub server_says : Section → List (List ℕ) → Result Statement Fault
server_says section words = do
  placed ← demand (has_backend section.kind) UnknownKeyword
  first ← demand (not (is_some section.server)) SecondServer
  named ← demand (is_name (first_word words)) UnknownKeyword
  endpoint ← found (server_of (first_word (other_words words))) UnknownKeyword
  Ok (Server endpoint (not (is_end (other_words (other_words words)))))

-- default_backend NAME
unfoldable pub default_backend_says : Section → List (List ℕ) → Result Statement Fault
default_backend_says section words = do
  placed ← demand (has_frontend section.kind) UnknownKeyword
  first ← once section.default_backend
  named ← demand (is_name (first_word words)) UnknownKeyword
  ended ← no_more (other_words words)
  Ok (DefaultBackend (first_word words))

-- stick-table ..
unfoldable pub stick_table_says : Section → List (List ℕ) → Result Statement Fault
stick_table_says section words = do
  first ← demand (not (is_some section.table)) SecondName
  table ← table_of words
  Ok (StickTable table)

-- acl NAME CRITERION ..
unfoldable pub acl_says : Section → List (List ℕ) → Result Statement Fault
acl_says section words = do
  placed ← demand (has_frontend section.kind) UnknownKeyword
  named ← demand (is_name (first_word words)) UnknownKeyword
  criterion ← criterion_of section.name (other_words words)
  Ok (Acl (record { name = first_word words; criterion = criterion }))

-- tcp-request connection ACTION, and perhaps if or unless and a condition
unfoldable pub tcp_request_says : OpenSection → List (List ℕ) → Result Statement Fault
tcp_request_says current words = do
  placed ← demand (has_frontend current.section.kind) UnknownKeyword
  connection ← demand (bytes_eq (first_word words) (codes "connection")) UnknownKeyword
  rule ← rule_of current.section.name current.acls (other_words words)
  Ok (Rule rule)

-- a keyword, and the words behind it
unfoldable pub keyword_says : OpenSection → List ℕ → List (List ℕ) → Result Statement Fault
keyword_says current keyword words =
    if bytes_eq keyword (codes "mode") then mode_says words
    else (if bytes_eq keyword (codes "bind") then bind_says current.section words
    else (if bytes_eq keyword (codes "server") then server_says current.section words
    else (if bytes_eq keyword (codes "default_backend") then default_backend_says current.section words
    else (if bytes_eq keyword (codes "stick-table") then stick_table_says current.section words
    else (if bytes_eq keyword (codes "acl") then acl_says current.section words
    else (if bytes_eq keyword (codes "tcp-request") then tcp_request_says current words
    else Err UnknownKeyword))))))

-- ---- keywords that are not looked into

-- a section that is read past
abbrev pub is_passed_section : List ℕ → Bool
is_passed_section keyword = bytes_eq keyword (codes "global") || bytes_eq keyword (codes "defaults")

-- a line of a section that is read past
abbrev pub is_passed_line : List ℕ → Bool
is_passed_line keyword =
    bytes_eq keyword (codes "option") || bytes_eq keyword (codes "timeout") || bytes_eq keyword (codes "balance")
    || bytes_eq keyword (codes "maxconn") || bytes_eq keyword (codes "log")

-- the section that a keyword begins
unfoldable pub section_kind : List ℕ → Option SectionKind
section_kind keyword =
    if bytes_eq keyword (codes "frontend") then Some Frontend
    else (if bytes_eq keyword (codes "backend") then Some Backend
    else (if bytes_eq keyword (codes "listen") then Some Listen
    else None))
