-- The tables of a configuration are within their limits.
use Rattle.std.proofs.Common.{◌≡◌, ◌+◌, ℕ, Bool, not, is_some, Option, Some, None, Result, Ok, Err, List, [], ◌∷◌, IfOk, IfSome, subst}
use Rattle.std.proofs.lemmas.List.Elements.{All-append, All-cons, All-nil}
use Rattle.std.specs.Prelude.{codes}
use Rattle.std.specs.Str.{bytes_eq, is_utf8}
use Rattle.rule_addresses.specs.Addresses.{bind_of, server_of}
use Rattle.rule_model.specs.Reading.{◌>>=◌, demand}
use Rattle.rule_model.specs.Served.{AreTables, IsTable, has_backend, has_frontend}
use Rattle.rule_model.specs.declared.faults.Fault.{Fault}
use Rattle.rule_model.specs.declared.faults.Fault.TheVariants.{UnknownKeyword, SecondName, SecondServer, ModeHttp, NotUtf8}
use Rattle.rule_model.specs.declared.sections.Config.{Config}
use Rattle.rule_model.specs.declared.sections.Section.{Section}
use Rattle.rule_model.specs.declared.sections.SectionKind.{SectionKind}
use Rattle.rule_words.specs.Lines.{first_word, is_plain, lines_of, other_words, words_of}
use Rattle.rule_words.specs.Names.{is_name}
use Rattle.rule_words.specs.Table.{found, once, table_of}
use Rattle.rule_words.specs.Conditions.{criterion_of}
use Rattle.rule_config.specs.Actions.{rule_of}
use Rattle.rule_words.proofs.TableLemmas.{ok_bind, ok_if, table_of-IsTable}
use Rattle.rule_config.specs.Config.{Answers, at_line, config_of, config_with, first_unmet, nothing_read, read_from, read_of, whole}
use Rattle.rule_config.specs.Lines.{declared_by, declared_in, has_name, line_says, open_section, says_by, says_in, section_says, sections_of, with_line, with_statement, words_say}
use Rattle.rule_config.specs.Statements.{acl_says, bind_says, default_backend_says, is_passed_line, is_passed_section, keyword_says, mode_says, no_more, section_kind, server_says, stick_table_says, tcp_request_says}
use Rattle.rule_config.specs.declared.config.ConfigFault.{ConfigFault}
use Rattle.rule_config.specs.declared.needs.Need.{Need}
use Rattle.rule_config.specs.declared.reading.Place.{Place}
use Rattle.rule_config.specs.declared.reading.Place.TheVariants.{Outside, Passed, Inside}
use Rattle.rule_config.specs.declared.reading.Reading.{Reading}
use Rattle.rule_config.specs.declared.statements.OpenSection.{OpenSection}
use Rattle.rule_config.specs.declared.statements.Statement.{Statement}
use Rattle.rule_config.specs.declared.statements.Statement.TheVariants.{Nothing, ReadPast, PassesSection, Opens, StickTable, Bind, Server, DefaultBackend, Acl, Rule}

-- ---- what a line says

-- the table that it declares, if it does, is within its limits
abbrev IsLimited : Statement → Type 0
IsLimited (StickTable table) = IsTable table
IsLimited _ = Unit {0}

mode-limited : (words : List (List ℕ)) → IfOk (mode_says words) IsLimited
unfolding mode_says
mode-limited words =
    ok_bind IsLimited (demand (not (bytes_eq (first_word words) (codes "http"))) ModeHttp) _ (λ _ _.
    ok_bind IsLimited (demand (bytes_eq (first_word words) (codes "tcp")) UnknownKeyword) _ (λ _ _.
    ok_bind IsLimited (no_more (other_words words)) _ (λ _ _. tt)))

bind-limited : (section : Section) (words : List (List ℕ)) → IfOk (bind_says section words) IsLimited
unfolding bind_says
bind-limited section words =
    ok_bind IsLimited (demand (has_frontend section.kind) UnknownKeyword) _ (λ _ _.
    ok_bind IsLimited (once section.bind) _ (λ _ _.
    ok_bind IsLimited (found (bind_of (first_word words)) UnknownKeyword) _ (λ _ _.
    ok_bind IsLimited (no_more (other_words words)) _ (λ _ _. tt))))

server-limited : (section : Section) (words : List (List ℕ)) → IfOk (server_says section words) IsLimited
unfolding server_says
server-limited section words =
    ok_bind IsLimited (demand (has_backend section.kind) UnknownKeyword) _ (λ _ _.
    ok_bind IsLimited (demand (not (is_some section.server)) SecondServer) _ (λ _ _.
    ok_bind IsLimited (demand (is_name (first_word words)) UnknownKeyword) _ (λ _ _.
    ok_bind IsLimited (found (server_of (first_word (other_words words))) UnknownKeyword) _ (λ _ _. tt))))

default_backend-limited : (section : Section) (words : List (List ℕ)) → IfOk (default_backend_says section words) IsLimited
unfolding default_backend_says
default_backend-limited section words =
    ok_bind IsLimited (demand (has_frontend section.kind) UnknownKeyword) _ (λ _ _.
    ok_bind IsLimited (once section.default_backend) _ (λ _ _.
    ok_bind IsLimited (demand (is_name (first_word words)) UnknownKeyword) _ (λ _ _.
    ok_bind IsLimited (no_more (other_words words)) _ (λ _ _. tt))))

stick_table-limited : (section : Section) (words : List (List ℕ)) → IfOk (stick_table_says section words) IsLimited
unfolding stick_table_says
stick_table-limited section words =
    ok_bind IsLimited (demand (not (is_some section.table)) SecondName) _ (λ _ _.
    ok_bind IsLimited (table_of words) _ (λ table e. subst (λ r. IfOk r IsTable) e (table_of-IsTable words)))

acl-limited : (section : Section) (words : List (List ℕ)) → IfOk (acl_says section words) IsLimited
unfolding acl_says
acl-limited section words =
    ok_bind IsLimited (demand (has_frontend section.kind) UnknownKeyword) _ (λ _ _.
    ok_bind IsLimited (demand (is_name (first_word words)) UnknownKeyword) _ (λ _ _.
    ok_bind IsLimited (criterion_of section.name (other_words words)) _ (λ _ _. tt)))

tcp_request-limited : (current : OpenSection) (words : List (List ℕ)) → IfOk (tcp_request_says current words) IsLimited
unfolding tcp_request_says
tcp_request-limited current words =
    ok_bind IsLimited (demand (has_frontend current.section.kind) UnknownKeyword) _ (λ _ _.
    ok_bind IsLimited (demand (bytes_eq (first_word words) (codes "connection")) UnknownKeyword) _ (λ _ _.
    ok_bind IsLimited (rule_of current.section.name current.acls (other_words words)) _ (λ _ _. tt)))

keyword-limited : (current : OpenSection) (keyword : List ℕ) (words : List (List ℕ)) → IfOk (keyword_says current keyword words) IsLimited
unfolding keyword_says
keyword-limited current keyword words =
    ok_if IsLimited (bytes_eq keyword (codes "mode")) _ _ (mode-limited words)
    (ok_if IsLimited (bytes_eq keyword (codes "bind")) _ _ (bind-limited current.section words)
    (ok_if IsLimited (bytes_eq keyword (codes "server")) _ _ (server-limited current.section words)
    (ok_if IsLimited (bytes_eq keyword (codes "default_backend")) _ _ (default_backend-limited current.section words)
    (ok_if IsLimited (bytes_eq keyword (codes "stick-table")) _ _ (stick_table-limited current.section words)
    (ok_if IsLimited (bytes_eq keyword (codes "acl")) _ _ (acl-limited current.section words)
    (ok_if IsLimited (bytes_eq keyword (codes "tcp-request")) _ _ (tcp_request-limited current words) tt))))))

says_in-limited : (place : Place) (plain : Bool) (word : List ℕ) (words : List (List ℕ)) → IfOk (says_in place plain word words) IsLimited
says_in-limited Outside plain word words = tt
says_in-limited Passed plain word words = tt
says_in-limited (Inside current) plain word words =
    ok_if IsLimited (is_passed_line word) _ _ tt (ok_bind IsLimited (demand plain UnknownKeyword) _ (λ _ _. keyword-limited current word words))

section-limited : (read : Reading) (kind : SectionKind) (words : List (List ℕ)) → IfOk (section_says read kind words) IsLimited
unfolding section_says
section-limited read kind words =
    ok_bind IsLimited (demand (is_name (first_word words)) UnknownKeyword) _ (λ _ _.
    ok_bind IsLimited (demand (not (has_name read (first_word words))) SecondName) _ (λ _ _.
    ok_bind IsLimited (no_more (other_words words)) _ (λ _ _. tt)))

says_by-limited : (kind : Option SectionKind) (read : Reading) (plain : Bool) (word : List ℕ) (words : List (List ℕ)) → IfOk (says_by kind read plain word words) IsLimited
says_by-limited (Some kind) read plain word words = ok_bind IsLimited (demand plain UnknownKeyword) _ (λ _ _. section-limited read kind words)
says_by-limited None read plain word words = says_in-limited read.place plain word words

words-limited : (read : Reading) (plain : Bool) (words : List (List ℕ)) → IfOk (words_say read plain words) IsLimited
unfolding words_say
words-limited read plain [] = tt
words-limited read plain (word ∷ words) = ok_if IsLimited (is_passed_section word) _ _ tt (says_by-limited (section_kind word) read plain word words)

line-limited : (read : Reading) (line : List ℕ) → IfOk (line_says read line) IsLimited
unfolding line_says
line-limited read line = ok_bind IsLimited (demand (is_utf8 line) NotUtf8) _ (λ _ _. words-limited read (is_plain line) (words_of line))

-- ---- what was read

abbrev IsLimitedPlace : Place → Type 0
IsLimitedPlace (Inside current) = IfSome current.section.table IsTable
IsLimitedPlace Outside = Unit {0}
IsLimitedPlace Passed = Unit {0}

record AreLimited (read : Reading) : Type 0 where
  ended : AreTables read.sections
  open_one : IsLimitedPlace read.place

place_tables : (place : Place) → IsLimitedPlace place → AreTables (open_section place)
place_tables Outside h = All-nil (λ (section : Section). IfSome section.table IsTable)
place_tables Passed h = All-nil (λ (section : Section). IfSome section.table IsTable)
place_tables (Inside current) h = All-cons (λ (section : Section). IfSome section.table IsTable) current.section [] h (All-nil (λ (section : Section). IfSome section.table IsTable))

tables_so_far : (read : Reading) → AreLimited read → AreTables (sections_of read)
tables_so_far read h = All-append (λ (section : Section). IfSome section.table IsTable) read.sections (open_section read.place) h.ended (place_tables read.place h.open_one)

-- a line that declares no table leaves the open section's
place-limited : (place : Place) (statement : Statement) → IsLimitedPlace place → IsLimited statement → IsLimitedPlace (declared_in place statement)
place-limited Outside statement h l = tt
place-limited Passed statement h l = tt
place-limited (Inside current) Nothing h l = h
place-limited (Inside current) ReadPast h l = h
place-limited (Inside current) PassesSection h l = h
place-limited (Inside current) (Opens kind name) h l = h
place-limited (Inside current) (StickTable table) h l = l
place-limited (Inside current) (Bind endpoint) h l = h
place-limited (Inside current) (Server endpoint has_more) h l = h
place-limited (Inside current) (DefaultBackend name) h l = h
place-limited (Inside current) (Acl acl) h l = h
place-limited (Inside current) (Rule rule) h l = h

declared-limited : (read : Reading) (statement : Statement) → AreLimited read → IsLimited statement → AreLimited (declared_by read statement)
declared-limited read PassesSection h l = record { ended = tables_so_far read h; open_one = tt }
declared-limited read (Opens kind name) h l = record { ended = tables_so_far read h; open_one = tt }
declared-limited read Nothing h l = record { ended = h.ended; open_one = place-limited read.place Nothing h.open_one l }
declared-limited read ReadPast h l = record { ended = h.ended; open_one = place-limited read.place ReadPast h.open_one l }
declared-limited read (StickTable table) h l = record { ended = h.ended; open_one = place-limited read.place (StickTable table) h.open_one l }
declared-limited read (Bind endpoint) h l = record { ended = h.ended; open_one = place-limited read.place (Bind endpoint) h.open_one l }
declared-limited read (Server endpoint has_more) h l = record { ended = h.ended; open_one = place-limited read.place (Server endpoint has_more) h.open_one l }
declared-limited read (DefaultBackend name) h l = record { ended = h.ended; open_one = place-limited read.place (DefaultBackend name) h.open_one l }
declared-limited read (Acl acl) h l = record { ended = h.ended; open_one = place-limited read.place (Acl acl) h.open_one l }
declared-limited read (Rule rule) h l = record { ended = h.ended; open_one = place-limited read.place (Rule rule) h.open_one l }

with_line-limited : (number : ℕ) (read : Reading) (line : List ℕ) → AreLimited read → IfOk (with_line number read line) AreLimited
unfolding with_statement
with_line-limited number read line h =
    ok_bind AreLimited (line_says read line) (λ statement. Ok (with_statement number read statement))
    (λ statement e. declared-limited _ statement (record { ended = h.ended; open_one = h.open_one }) (subst (λ r. IfOk r IsLimited) e (line-limited read line)))

limited_by : (number : ℕ) (lines : List (List ℕ)) (said : Result Reading Fault) → ((next : Reading) → AreLimited next → IfOk (read_from (number + 1) next lines) AreLimited)
    → IfOk said AreLimited → IfOk (at_line number said >>= (λ next. read_from (number + 1) next lines)) AreLimited
limited_by number lines (Ok next) more h = more next h
limited_by number lines (Err fault) more h = tt

read_from-limited : (number : ℕ) (read : Reading) (lines : List (List ℕ)) → AreLimited read → IfOk (read_from number read lines) AreLimited
unfolding read_from
read_from-limited number read [] h = h
read_from-limited number read (line ∷ lines) h =
    limited_by number lines (with_line number read line) (λ next. read_from-limited (number + 1) next lines) (with_line-limited number read line h)

whole-limited : (read : Reading) (unmet : Option Need) → AreLimited read → IfOk (config_with read unmet) (λ config. AreTables config.sections)
whole-limited read (Some need) h = tt
whole-limited read None h = tables_so_far read h

-- the tables of a configuration that a text says are within their limits
config_of-AreTables : (text : List ℕ) (config : Config) → config_of text ≡ Ok config → AreTables config.sections
unfolding config_of
config_of-AreTables text config e =
    let all : IfOk (read_of (lines_of text) >>= whole) (λ config. AreTables config.sections) =
    ok_bind (λ (config : Config). AreTables config.sections) (read_of (lines_of text)) whole
    (λ read r. whole-limited read (first_unmet read) (subst (λ r. IfOk r AreLimited) r
    (read_from-limited 1 nothing_read (lines_of text) (record { ended = All-nil (λ (section : Section). IfSome section.table IsTable); open_one = tt })))) in
    subst (λ r. IfOk r (λ (config : Config). AreTables config.sections)) e all

-- the same of what is answered
pub answers_limited : (text : List ℕ) (result : Result Config ConfigFault) → Answers text result → IfOk result (λ config. AreTables config.sections)
answers_limited text (Ok config) h = config_of-AreTables text config h
answers_limited text (Err fault) h = tt
