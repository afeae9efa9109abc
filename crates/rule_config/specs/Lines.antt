-- What a line says, and what was read once it is taken.
use Rattle.std.specs.Prelude.{ℕ, Bool, true, false, not, Option, Some, None, Result, Ok, Err, List, [], ◌∷◌, ◌++◌, map, if◌then◌else◌}
use Rattle.std.specs.List.{list_any, flat_map}
use Rattle.std.specs.Str.{bytes_eq, is_utf8}
use Rattle.rule_model.specs.Reading.{◌>>=◌, demand}
use Rattle.rule_model.specs.declared.actions.Action.{Action}
use Rattle.rule_model.specs.declared.actions.Action.TheVariants.{Track}
use Rattle.rule_model.specs.declared.criteria.Criterion.{Criterion}
use Rattle.rule_model.specs.declared.rules.Term.{Term}
use Rattle.rule_model.specs.declared.sections.SectionKind.{SectionKind}
use Rattle.rule_model.specs.declared.sections.Section.{Section}
use Rattle.rule_model.specs.declared.faults.Fault.{Fault}
use Rattle.rule_model.specs.declared.faults.Fault.TheVariants.{UnknownKeyword, SecondName, NotUtf8}
use Rattle.rule_words.specs.Lines.{words_of, is_plain, first_word, other_words}
use Rattle.rule_words.specs.Names.{is_name}
use Rattle.rule_words.specs.Conditions.{tables_of}
use Rattle.rule_config.specs.Statements.{no_more, keyword_says, is_passed_section, is_passed_line, section_kind}
use Rattle.rule_config.specs.declared.statements.OpenSection.{OpenSection}
use Rattle.rule_config.specs.declared.statements.Statement.{Statement}
use Rattle.rule_config.specs.declared.statements.Statement.TheVariants.{Nothing, ReadPast, PassesSection, Opens, StickTable, Bind, Server, DefaultBackend, Acl, Rule}
use Rattle.rule_config.specs.declared.reading.Place.{Place}
use Rattle.rule_config.specs.declared.reading.Place.TheVariants.{Outside, Passed, Inside}
use Rattle.rule_config.specs.declared.needs.Needed.TheVariants.{Table, Backend}
use Rattle.rule_config.specs.declared.needs.Need.{Need}
use Rattle.rule_config.specs.declared.reading.Reading.{Reading}

-- ---- what was read

-- the section that is open
abbrev pub open_section : Place → List Section
open_section Outside = []
open_section Passed = []
open_section (Inside current) = current.section ∷ []

-- all sections so far
abbrev pub sections_of : Reading → List Section
sections_of read = read.sections ++ open_section read.place

-- whether a section has the name
abbrev pub has_name : Reading → List ℕ → Bool
has_name read name = list_any (λ section. bytes_eq section.name name) (sections_of read)

-- ---- what a line says

-- frontend NAME, backend NAME or listen NAME
unfoldable pub section_says : Reading → SectionKind → List (List ℕ) → Result Statement Fault
section_says read kind words = do
  named ← demand (is_name (first_word words)) UnknownKeyword
  new ← demand (not (has_name read (first_word words))) SecondName
  ended ← no_more (other_words words)
  Ok (Opens kind (first_word words))

-- a line with this first word, outside a section, in one that is read past, or in one that is read
abbrev pub says_in : Place → Bool → List ℕ → List (List ℕ) → Result Statement Fault
says_in Outside plain word words = Err UnknownKeyword
says_in Passed plain word words = Ok Nothing
says_in (Inside current) plain word words = if is_passed_line word then Ok ReadPast else (demand plain UnknownKeyword >>= (λ _. keyword_says current word words))

-- a line that begins a section, or another
abbrev pub says_by : Option SectionKind → Reading → Bool → List ℕ → List (List ℕ) → Result Statement Fault
says_by (Some kind) read plain word words = demand plain UnknownKeyword >>= (λ _. section_says read kind words)
says_by None read plain word words = says_in read.place plain word words

-- the words of a line, which may have a quote
unfoldable pub words_say : Reading → Bool → List (List ℕ) → Result Statement Fault
words_say read plain [] = Ok Nothing
words_say read plain (word ∷ words) = if is_passed_section word then Ok PassesSection else says_by (section_kind word) read plain word words

-- a line, after what was read
unfoldable pub line_says : Reading → List ℕ → Result Statement Fault
line_says read line = demand (is_utf8 line) NotUtf8 >>= (λ _. words_say read (is_plain line) (words_of line))

-- ---- what the line of this number needs of the whole file

abbrev pub needs_tables : ℕ → List (List ℕ) → List Need
needs_tables number names = map (λ name. record { line = number; what = Table name }) names

abbrev pub action_needs : ℕ → Action → List Need
action_needs number (Track slot key table) = needs_tables number (table ∷ [])
action_needs number _ = []

abbrev pub criteria_needs : ℕ → List Criterion → List Need
criteria_needs number criteria = flat_map (λ criterion. needs_tables number (tables_of criterion)) criteria

abbrev pub terms_needs : ℕ → List Term → List Need
terms_needs number terms = flat_map (λ (term : Term). criteria_needs number term.criteria) terms

abbrev pub condition_needs : ℕ → Option (List (List Term)) → List Need
condition_needs number None = []
condition_needs number (Some condition) = flat_map (terms_needs number) condition

-- the tables of a rule and of an ACL, and the backend behind default_backend
abbrev pub needs_of : ℕ → Statement → List Need
needs_of number (DefaultBackend name) = record { line = number; what = Backend name } ∷ []
needs_of number (Acl acl) = criteria_needs number (acl.criterion ∷ [])
needs_of number (Rule rule) = action_needs number rule.action ++ condition_needs number rule.condition
needs_of number _ = []

-- ---- what was read, with what one line more says

abbrev pub new_section : SectionKind → List ℕ → OpenSection
new_section kind name = record { section = record { kind = kind; name = name; table = None; rules = []; bind = None; server = None; default_backend = None }; acls = [] }

-- an open section, and what one of its lines declares
abbrev pub with_declared : OpenSection → Statement → OpenSection
with_declared current (StickTable table) = record current { section = record (current.section) { table = Some table } }
with_declared current (Bind endpoint) = record current { section = record (current.section) { bind = Some endpoint } }
with_declared current (Server endpoint has_more) = record current { section = record (current.section) { server = Some endpoint } }
with_declared current (DefaultBackend name) = record current { section = record (current.section) { default_backend = Some name } }
with_declared current (Acl acl) = record current { acls = current.acls ++ acl ∷ [] }
with_declared current (Rule rule) = record current { section = record (current.section) { rules = current.section.rules ++ rule ∷ [] } }
with_declared current _ = current

abbrev pub declared_in : Place → Statement → Place
declared_in (Inside current) statement = Inside (with_declared current statement)
declared_in Outside statement = Outside
declared_in Passed statement = Passed

-- a section begins, which ends the one before; or the open one goes on
abbrev pub declared_by : Reading → Statement → Reading
declared_by read PassesSection = record read { sections = sections_of read; place = Passed }
declared_by read (Opens kind name) = record read { sections = sections_of read; place = Inside (new_section kind name) }
declared_by read statement = record read { place = declared_in read.place statement }

-- the lines that are read past with a warning
abbrev pub is_warned : Statement → Bool
is_warned ReadPast = true
is_warned PassesSection = true
is_warned (Server endpoint has_more) = has_more
is_warned _ = false

abbrev pub warnings_of : ℕ → Statement → List ℕ
warnings_of number statement = if is_warned statement then number ∷ [] else []

-- what the line of this number declares, whether it is read past, and what it needs
unfoldable pub with_statement : ℕ → Reading → Statement → Reading
with_statement number read statement =
    declared_by (record read { warnings = read.warnings ++ warnings_of number statement; needs = read.needs ++ needs_of number statement }) statement

-- what was read, with the line of this number
abbrev pub with_line : ℕ → Reading → List ℕ → Result Reading Fault
with_line number read line = line_says read line >>= (λ statement. Ok (with_statement number read statement))
