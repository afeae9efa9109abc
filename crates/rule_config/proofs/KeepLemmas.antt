-- What stays of a section whose rules limit first, line by line.
use Rattle.std.proofs.Common.{◌≡◌, ◌∙◌, append_assoc, refl, sym, ap, subst, ℕ, ◌+◌, Bool, true, false, ◌||◌, is_some, Some, Result, Ok, Err, List, [], ◌∷◌, ◌++◌, drop, codes, IfOk}
use Rattle.std.specs.List.{AllByRecursion, list_any}
use Rattle.std.specs.Str.{bytes_eq}
use Rattle.std.proofs.lemmas.Bool.{false≢true}
use Rattle.rule_model.specs.Reading.{◌>>=◌}
use Rattle.rule_model.specs.Served.{has_frontend}
use Rattle.rule_model.specs.declared.faults.Fault.{Fault}
use Rattle.rule_model.specs.declared.rules.Rule.{Rule as ARule}
use Rattle.rule_model.specs.declared.sections.Section.{Section}
use Rattle.rule_model.specs.declared.sections.TableSpec.{TableSpec}
use Rattle.rule_words.specs.Lines.{first_word, words_of}
use Rattle.rule_words.proofs.TableLemmas.{ok_bind}
use Rattle.rule_eval.specs.Limit.{refusing_rule, tracking_rule, tracks_sc0}
use Rattle.rule_config.specs.Config.{at_line, read_from}
use Rattle.rule_config.specs.Lines.{declared_by, declared_in, has_name, line_says, open_section, sections_of, with_declared, with_line, with_statement}
use Rattle.rule_config.specs.declared.reading.Place.{Place}
use Rattle.rule_config.specs.declared.reading.Place.TheVariants.{Outside, Passed, Inside}
use Rattle.rule_config.specs.declared.reading.Reading.{Reading}
use Rattle.rule_config.specs.declared.statements.OpenSection.{OpenSection}
use Rattle.rule_config.specs.declared.statements.Statement.{Statement}
use Rattle.rule_config.specs.declared.statements.Statement.TheVariants.{Nothing, ReadPast, PassesSection, Opens, StickTable, Bind, Server, DefaultBackend, Acl, Rule}
use Rattle.rule_config.specs.Text.{says_track_sc0}
use Rattle.rule_config.proofs.SaysLemmas.{Fits, has_table, line_fits}

pub both_false : (a b : Bool) → (a || b) ≡ false → (a ≡ false) × (b ≡ false)
both_false true b none = absurd (false≢true (sym none))
both_false false b none = (refl, none)

-- what all that follows a line keeps to
pub line_by : (P Q : Reading → Type 0) (number next_number : ℕ) (said : Result Reading Fault) (lines : List (List ℕ)) → IfOk said P → ((next : Reading) → P next → IfOk (read_from next_number next lines) Q)
    → IfOk (at_line number said >>= (λ next. read_from next_number next lines)) Q
line_by P Q number next_number (Ok next) lines here later = later next here
line_by P Q number next_number (Err fault) lines here later = tt

-- ---- the name of the open section is its own

abbrev pub IsOwnIn : List Section → Place → Type 0
IsOwnIn sections (Inside current) = list_any (λ (section : Section). bytes_eq section.name current.section.name) sections ≡ false
IsOwnIn sections Outside = Unit {0}
IsOwnIn sections Passed = Unit {0}

abbrev pub IsOwn : Reading → Type 0
IsOwn read = IsOwnIn read.sections read.place

in_place-own : (sections : List Section) (place : Place) (statement : Statement) → IsOwnIn sections place → IsOwnIn sections (declared_in place statement)
in_place-own sections Outside statement own = tt
in_place-own sections Passed statement own = tt
in_place-own sections (Inside current) Nothing own = own
in_place-own sections (Inside current) ReadPast own = own
in_place-own sections (Inside current) PassesSection own = own
in_place-own sections (Inside current) (Opens kind name) own = own
in_place-own sections (Inside current) (StickTable table) own = own
in_place-own sections (Inside current) (Bind endpoint) own = own
in_place-own sections (Inside current) (Server endpoint has_more) own = own
in_place-own sections (Inside current) (DefaultBackend name) own = own
in_place-own sections (Inside current) (Acl acl) own = own
in_place-own sections (Inside current) (Rule rule) own = own

declared-own : (read : Reading) (place : Place) (words : List (List ℕ)) (statement : Statement) → IsOwn read → Fits place (has_name read) words statement → IsOwn (declared_by read statement)
declared-own read place words PassesSection own fits = tt
declared-own read place words (Opens kind name) own fits = fits
declared-own read place words statement own fits = in_place-own read.sections read.place statement own

with_line-own : (number : ℕ) (read : Reading) (line : List ℕ) → IsOwn read → IfOk (with_line number read line) IsOwn
unfolding with_statement
with_line-own number read line own =
    ok_bind IsOwn (line_says read line) (λ statement. Ok (with_statement number read statement))
    (λ statement e. declared-own _ read.place (words_of line) statement own (subst (λ r. IfOk r (Fits read.place (has_name read) (words_of line))) e (line_fits read line)))

pub read_from-own : (number : ℕ) (read : Reading) (lines : List (List ℕ)) → IsOwn read → IfOk (read_from number read lines) IsOwn
unfolding read_from
read_from-own number read [] own = own
read_from-own number read (line ∷ lines) own =
    line_by IsOwn IsOwn number (number + 1) (with_line number read line) lines (with_line-own number read line own) (λ next own. read_from-own (number + 1) next lines own)

-- ---- the section that limits

module _ (firsts : List Section) (name : List ℕ) (limit : ℕ) (table : TableSpec) where
  pub record IsOurs (section : Section) : Type 0 where
    pub name_is : section.name ≡ name
    pub frontend : has_frontend section.kind ≡ true
    pub table_is : section.table ≡ Some table
    pub later : List ARule
    pub rules_are : section.rules ≡ tracking_rule name ∷ refusing_rule limit ∷ later
    pub others : AllByRecursion (λ (rule : ARule). tracks_sc0 rule.action ≡ false) later

  -- it is open, or it has ended
  pub data Keeps (read : Reading) : Type 0 where
    in_open : (current : OpenSection) → read.sections ≡ firsts → read.place ≡ Inside current → IsOurs current.section → Keeps read
    in_ended : (ours : Section) (others : List Section) → read.sections ≡ firsts ++ ours ∷ others → IsOurs ours → Keeps read

  still : (one other : Section) → other.name ≡ one.name → other.kind ≡ one.kind → other.table ≡ one.table → other.rules ≡ one.rules → IsOurs one → IsOurs other
  still one other n k t r ours = record {
    name_is = n ∙ ours.name_is;
    frontend = ap has_frontend k ∙ ours.frontend;
    table_is = t ∙ ours.table_is;
    later = ours.later;
    rules_are = r ∙ ours.rules_are;
    others = ours.others;
  }

  same_places : (one other : Reading) → other.sections ≡ one.sections → other.place ≡ one.place → Keeps one → Keeps other
  same_places one other sections place (in_open current s p ours) = in_open current (sections ∙ s) (place ∙ p) ours
  same_places one other sections place (in_ended ours others s is) = in_ended ours others (sections ∙ s) is

  -- the sections so far
  pub all_sections : (read : Reading) → Keeps read → (ours : Section) × (others : List Section) × (sections_of read ≡ firsts ++ ours ∷ others) × IsOurs ours
  all_sections read (in_open current s p ours) = (current.section, [], (λ i. s i ++ open_section (p i)), ours)
  all_sections read (in_ended ours others s is) = (ours, others ++ open_section read.place, ap (λ l. l ++ open_section read.place) s ∙ append_assoc firsts (ours ∷ others) (open_section read.place), is)

  ended-keeps : (read new : Reading) → new.sections ≡ sections_of read → Keeps read → Keeps new
  ended-keeps read new sections keeps = let all = all_sections read keeps in in_ended all.0 all.1 (sections ∙ all.2) all.3

  none_more : (later : List ARule) (rule : ARule) → AllByRecursion (λ (r : ARule). tracks_sc0 r.action ≡ false) later → tracks_sc0 rule.action ≡ false
      → AllByRecursion (λ (r : ARule). tracks_sc0 r.action ≡ false) (later ++ rule ∷ [])
  none_more [] rule none last = (last, tt)
  none_more (first ∷ later) rule none last = (none.0, none_more later rule none.1 last)

  declared-keeps : (read : Reading) (named : List ℕ → Bool) (words : List (List ℕ)) (statement : Statement) → bytes_eq (first_word (drop 2 words)) (codes "track-sc0") ≡ false
      → Fits read.place named words statement → Keeps read → Keeps (declared_by read statement)
  declared-keeps read named words PassesSection other fits keeps = ended-keeps read _ refl keeps
  declared-keeps read named words (Opens kind new) other fits keeps = ended-keeps read _ refl keeps
  declared-keeps read named words (StickTable new) other fits (in_open current s p ours) =
      absurd (false≢true (sym fits ∙ ap has_table p ∙ ap is_some ours.table_is))
  declared-keeps read named words (Rule rule) other fits (in_open current s p ours) =
      in_open (with_declared current (Rule rule)) s (ap (λ place. declared_in place (Rule rule)) p) (record {
        name_is = ours.name_is;
        frontend = ours.frontend;
        table_is = ours.table_is;
        later = ours.later ++ rule ∷ [];
        rules_are = ap (λ rules. rules ++ rule ∷ []) ours.rules_are;
        others = none_more ours.later rule ours.others (fits ∙ other);
      })
  declared-keeps read named words statement other fits (in_open current s p ours) =
      in_open (with_declared current statement) s (ap (λ place. declared_in place statement) p) (still current.section _ refl refl refl refl ours)
  declared-keeps read named words statement other fits (in_ended ours others s is) = in_ended ours others s is

  with_line-keeps : (number : ℕ) (read : Reading) (line : List ℕ) → says_track_sc0 line ≡ false → Keeps read → IfOk (with_line number read line) Keeps
  unfolding with_statement
  with_line-keeps number read line other keeps =
      ok_bind Keeps (line_says read line) (λ statement. Ok (with_statement number read statement))
      (λ statement e. declared-keeps _ (has_name read) (words_of line) statement other (subst (λ r. IfOk r (Fits read.place (has_name read) (words_of line))) e (line_fits read line))
      (same_places read _ refl refl keeps))

  pub read_from-keeps : (number : ℕ) (read : Reading) (lines : List (List ℕ)) → list_any says_track_sc0 lines ≡ false → Keeps read → IfOk (read_from number read lines) Keeps
  unfolding read_from
  read_from-keeps number read [] none keeps = keeps
  read_from-keeps number read (line ∷ lines) none keeps =
      let each = both_false (says_track_sc0 line) (list_any says_track_sc0 lines) none in
      line_by Keeps Keeps number (number + 1) (with_line number read line) lines (with_line-keeps number read line each.0 keeps) (λ next keeps. read_from-keeps (number + 1) next lines each.1 keeps)

-- ---- a line of a known rule

pub rule_taken : (number : ℕ) (read : Reading) (line : List ℕ) (current : OpenSection) (rule : ARule) → read.place ≡ Inside current → IfOk (line_says read line) (λ statement. statement ≡ Rule rule)
    → IfOk (with_line number read line) (λ next. (next.sections ≡ read.sections) × (next.place ≡ Inside (with_declared current (Rule rule))))
unfolding with_statement
rule_taken number read line current rule place says =
    let P : Reading → Type 0 = λ next. (next.sections ≡ read.sections) × (next.place ≡ Inside (with_declared current (Rule rule))) in
    ok_bind P (line_says read line) (λ statement. Ok (with_statement number read statement))
    (λ statement e.
    let is : statement ≡ Rule rule = subst (λ r. IfOk r (λ said. said ≡ Rule rule)) e says in
    subst (λ said. P (with_statement number read said)) (sym is) (refl, ap (λ p. declared_in p (Rule rule)) place))
