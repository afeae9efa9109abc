-- From a text to rules that limit first.
use Rattle.std.proofs.Common.{◌≡◌, ◌∙◌, refl, sym, ap, subst, arith, ℕ, ◌+◌, ◌≤◌, ◌<◌, ◌^◌, nat_lt, Bool, true, false, not, ◌||◌, cond, if◌then◌else◌, Option, Some, None, Ok, List, [], ◌∷◌, ◌++◌, length, slice_get, IfOk, length-append, position}
use Rattle.std.specs.Option.{option_map}
use Rattle.std.specs.List.{cons_option, find, list_any, position_or_len, prefix_len}
use Rattle.std.specs.Str.{bytes_eq}
use Rattle.std.proofs.lemmas.Bool.Decides.{nat_tests}
use Rattle.std.proofs.lemmas.List.Elements.{filter_map-append}
use Rattle.std.proofs.lemmas.Slice.Eq.{bytes_eq-Decides}
use Rattle.stored_data.specs.Stored.{is_column}
use Rattle.stored_data.specs.declared.datum.Datum.TheVariants.{ConnCur}
use Rattle.rule_model.specs.Reading.{◌>>=◌}
use Rattle.rule_model.specs.Served.{has_frontend, proxy_of, setup_of, setup_with, spec_of, table_of, tables_of}
use Rattle.rule_model.specs.declared.sections.Config.{Config}
use Rattle.rule_model.specs.declared.sections.NamedSpec.{NamedSpec}
use Rattle.rule_model.specs.declared.sections.Section.{Section}
use Rattle.rule_model.specs.declared.sections.TableSpec.{TableSpec}
use Rattle.rule_words.specs.Lines.{lines_of, words_of}
use Rattle.base_lines.specs.Number.{number_of}
use Rattle.rule_words.proofs.TableLemmas.{ok_bind}
use Rattle.rule_eval.specs.Limit.{LimitsFirst, refusing_rule, tracking_rule}
use Rattle.rule_eval.proofs.ShownLemmas.{conn_cur_read}
use Rattle.rule_eval.specs.Tables.{has_datum, in_32_bits}
use Rattle.rule_config.specs.Config.{config_of, config_with, first_unmet, nothing_read, read_from, read_of, whole}
use Rattle.rule_config.specs.Lines.{with_declared, with_line}
use Rattle.rule_config.specs.declared.needs.Need.{Need}
use Rattle.rule_config.specs.declared.reading.Place.TheVariants.{Inside}
use Rattle.rule_config.specs.declared.reading.Reading.{Reading}
use Rattle.rule_config.specs.declared.statements.OpenSection.{OpenSection}
use Rattle.rule_config.specs.declared.statements.Statement.TheVariants.{Rule}
use Rattle.rule_config.proofs.ReadLemmas.{read_of-next}
use Rattle.rule_config.specs.Text.{AwaitsRules, LimitTextLaw, refusing_words, says_track_sc0, tracking_words}
use Rattle.rule_config.proofs.KeepLemmas.{IsOurs, IsOwn, IsOwnIn, Keeps, all_sections, both_false, in_open, line_by, read_from-keeps, read_from-own, rule_taken}
use Rattle.rule_config.proofs.RuleLemmas.{refuses, tracks}
use Rattle.rule_config.proofs.SaysLemmas.{rule_said}

-- ---- lists

found_behind : {X : Type 0} (p : X → Bool) (firsts : List X) (x : X) (more : List X) → list_any p firsts ≡ false → p x ≡ true → find p (firsts ++ x ∷ more) ≡ Some x
found_behind p [] x more none is = ap (λ b. cond b (Some x) (find p more)) is
found_behind p (first ∷ firsts) x more none is =
    let each = both_false (p first) (list_any p firsts) none in
    ap (λ b. cond b (Some first) (find p (firsts ++ x ∷ more))) each.0 ∙ found_behind p firsts x more each.1 is

place_behind : {X : Type 0} (p : X → Bool) (firsts : List X) (x : X) (more : List X) → list_any p firsts ≡ false → p x ≡ true → position_or_len p (firsts ++ x ∷ more) ≡ length firsts
place_behind p [] x more none is = ap (λ b. cond (not b) (1 + prefix_len (λ y. not (p y)) more) 0) is
place_behind p (first ∷ firsts) x more none is =
    let each = both_false (p first) (list_any p firsts) none in
    let next : position_or_len p (firsts ++ x ∷ more) ≡ length firsts = place_behind p firsts x more each.1 is in
    let one_more : 1 + length firsts ≡ length (first ∷ firsts) = omega arith in
    ap (λ b. cond (not b) (1 + position_or_len p (firsts ++ x ∷ more)) 0) each.0 ∙ ap (λ n. 1 + n) next ∙ one_more

got_behind : {X : Type 0} (firsts : List X) (x : X) (more : List X) → slice_get (firsts ++ x ∷ more) (length firsts) ≡ Some x
got_behind [] x more = refl
got_behind (first ∷ firsts) x more = got_behind firsts x more

is_below : (a b : ℕ) → a < b → nat_lt a b ≡ true
is_below a b less = grind (arith, nat_tests)

position_behind : {X : Type 0} (p : X → Bool) (firsts : List X) (x : X) (more : List X) → list_any p firsts ≡ false → p x ≡ true → position p (firsts ++ x ∷ more) ≡ Some (length firsts)
position_behind p firsts x more none is =
    let all : List _ = firsts ++ x ∷ more in
    let place : position_or_len p all ≡ length firsts = place_behind p firsts x more none is in
    let less : length firsts < length all = omega (arith, length-append firsts (x ∷ more)) in
    ap (λ n. cond (nat_lt n (length all)) (Some n) None) place ∙ ap (λ b. cond b (Some (length firsts)) None) (is_below (length firsts) (length all) less)

-- ---- tables

named_tables : (name : List ℕ) (sections : List Section) → list_any (λ (section : Section). bytes_eq section.name name) sections ≡ false → list_any (λ (named : NamedSpec). bytes_eq named.name name) (tables_of sections) ≡ false
named_tables name [] none = refl
named_tables name (section ∷ sections) none = by section.table (named_tables name sections each.1)
  where
    each : (bytes_eq section.name name ≡ false) × (list_any (λ (s : Section). bytes_eq s.name name) sections ≡ false)
    each = both_false (bytes_eq section.name name) (list_any (λ (s : Section). bytes_eq s.name name) sections) none

    by : (table : Option TableSpec) → list_any (λ (named : NamedSpec). bytes_eq named.name name) (tables_of sections) ≡ false
        → list_any (λ (named : NamedSpec). bytes_eq named.name name) (cons_option (option_map (λ t. record { name = section.name; spec = spec_of t }) table) (tables_of sections)) ≡ false
    by None later = later
    by (Some table) later = ap (λ b. b || list_any (λ (named : NamedSpec). bytes_eq named.name name) (tables_of sections)) each.0 ∙ later

tables_few : (sections : List Section) → length (tables_of sections) ≤ length sections
tables_few [] = omega arith
tables_few (section ∷ sections) = by section.table (tables_few sections)
  where
    by : (table : Option TableSpec) → length (tables_of sections) ≤ length sections
        → length (cons_option (option_map (λ t. record { name = section.name; spec = spec_of t }) table) (tables_of sections)) ≤ length (section ∷ sections)
    by None few = omega arith
    by (Some table) few = omega arith

-- ---- what is served

module _ (firsts others : List Section) (ours : Section) (name : List ℕ) (limit shards : ℕ) (table : TableSpec) where
  abbrev all : List Section
  all = firsts ++ ours ∷ others

  abbrev its_table : NamedSpec
  its_table = record { name = ours.name; spec = spec_of table }

  abbrev place : ℕ
  place = length (tables_of firsts)

  tables_are : IsOurs firsts name limit table ours → tables_of all ≡ tables_of firsts ++ its_table ∷ tables_of others
  tables_are is =
      filter_map-append table_of firsts (ours ∷ others)
      ∙ ap (λ t. tables_of firsts ++ cons_option (option_map (λ spec. record { name = ours.name; spec = spec_of spec }) t) (tables_of others)) is.table_is

  limits_first : IsOurs firsts name limit table ours → list_any (λ (section : Section). has_frontend section.kind) firsts ≡ false
      → list_any (λ (section : Section). bytes_eq section.name name) firsts ≡ false → is_column table.columns ConnCur ≡ true → length all ≤ 2 ^ 32 → LimitsFirst (setup_with all shards (proxy_of all)) name place limit
  limits_first is first own stored few =
      let same_name : bytes_eq ours.name name ≡ true = (bytes_eq-Decides ours.name name).1 is.name_is in
      let tables = tables_are is in
      let at : position (λ (named : NamedSpec). bytes_eq named.name name) (tables_of all) ≡ Some place =
      ap (position (λ (named : NamedSpec). bytes_eq named.name name)) tables
      ∙ position_behind (λ (named : NamedSpec). bytes_eq named.name name) (tables_of firsts) its_table (tables_of others) (named_tables name firsts own) same_name in
      let below : place < 2 ^ 32 = omega (arith, few, tables_few firsts, length-append firsts (ours ∷ others)) in
      let found : slice_get (tables_of all) place ≡ Some its_table = ap (λ t. slice_get t place) tables ∙ got_behind (tables_of firsts) its_table (tables_of others) in
      subst (λ proxy. LimitsFirst (setup_with all shards proxy) name place limit) (sym (found_behind (λ (section : Section). has_frontend section.kind) firsts ours others first is.frontend))
      (record {
        later = is.later;
        begin = is.rules_are;
        named = ap in_32_bits at ∙ ap (λ b. if b then Some place else None) (is_below place (2 ^ 32) below);
        stored = ap (λ t. has_datum t ConnCur) found ∙ conn_cur_read table.columns ∙ stored;
        others = is.others;
      })

-- ---- the text

abbrev Served : List ℕ → ℕ → ℕ → Config → Type 0
Served name limit shards config = length config.sections ≤ 2 ^ 32 → (table : ℕ) × LimitsFirst (setup_of config shards) name table limit

served : (firsts : List Section) (name : List ℕ) (limit shards : ℕ) (table : TableSpec) (read : Reading) (unmet : Option Need) → list_any (λ (section : Section). has_frontend section.kind) firsts ≡ false
    → list_any (λ (section : Section). bytes_eq section.name name) firsts ≡ false → is_column table.columns ConnCur ≡ true → Keeps firsts name limit table read
    → IfOk (config_with read unmet) (Served name limit shards)
unfolding setup_of
served firsts name limit shards table read (Some need) first own stored keeps = tt
served firsts name limit shards table read None first own stored keeps =
    let all = all_sections firsts name limit table read keeps in
    subst (λ sections. length sections ≤ 2 ^ 32 → (table : ℕ) × LimitsFirst (setup_with sections shards (proxy_of sections)) name table limit) (sym all.2)
    (λ few. (_, limits_first firsts all.1 all.0 name limit shards table all.3 first own stored few))

module _ (name : List ℕ) (limit : ℕ) (read : Reading) (awaits : AwaitsRules read name) where
  abbrev current : OpenSection
  current = awaits.current

  abbrev firsts : List Section
  firsts = read.sections

  abbrev both_rules : OpenSection
  both_rules = with_declared (with_declared current (Rule (tracking_rule current.section.name))) (Rule (refusing_rule limit))

  both-ours : IsOurs firsts name limit awaits.table both_rules.section
  both-ours = record {
    name_is = awaits.name_is;
    frontend = awaits.frontend;
    table_is = awaits.table_is;
    later = [];
    rules_are = (λ i. (awaits.no_rules i ++ tracking_rule (awaits.name_is i) ∷ []) ++ refusing_rule limit ∷ []);
    others = tt;
  }

  abbrev HasFirst : Reading → Type 0
  HasFirst next = (next.sections ≡ read.sections) × (next.place ≡ Inside (with_declared current (Rule (tracking_rule current.section.name))))

  -- the rules behind the first
  behind_first : (number : ℕ) (next : Reading) (refuse digits : List ℕ) (later : List (List ℕ)) → HasFirst next → words_of refuse ≡ refusing_words digits → number_of digits ≡ Some limit
      → list_any says_track_sc0 later ≡ false → IfOk (read_from number next (refuse ∷ later)) (Keeps firsts name limit awaits.table)
  unfolding read_from
  behind_first number next refuse digits later first words limit_is others =
      let one_rule : OpenSection = with_declared current (Rule (tracking_rule current.section.name)) in
      line_by (λ (last : Reading). (last.sections ≡ next.sections) × (last.place ≡ Inside both_rules)) (Keeps firsts name limit awaits.table) number (number + 1) (with_line number next refuse) later
      (rule_taken number next refuse one_rule (refusing_rule limit) first.1 (rule_said next refuse one_rule _ (refusing_rule limit) first.1 words (refuses current.section.name current.acls digits limit limit_is)))
      (λ last second. read_from-keeps firsts name limit awaits.table (number + 1) last later others (in_open both_rules (second.0 ∙ first.0) second.1 both-ours))

  all_lines : (before : List (List ℕ)) (track refuse digits : List ℕ) (later : List (List ℕ)) → read_of before ≡ Ok read → words_of track ≡ tracking_words → words_of refuse ≡ refusing_words digits
      → number_of digits ≡ Some limit → list_any says_track_sc0 later ≡ false → IfOk (read_of (before ++ track ∷ refuse ∷ later)) (Keeps firsts name limit awaits.table)
  all_lines before track refuse digits later read_is track_is refuse_is limit_is others =
      subst (λ said. IfOk said (Keeps firsts name limit awaits.table)) (sym (read_of-next before (refuse ∷ later) track read read_is))
      (line_by HasFirst (Keeps firsts name limit awaits.table) (length before + 1) (length before + 2) (with_line (length before + 1) read track) (refuse ∷ later)
      (rule_taken (length before + 1) read track current (tracking_rule current.section.name) awaits.place
      (rule_said read track current _ (tracking_rule current.section.name) awaits.place track_is (tracks current.section.name current.acls)))
      (λ next first. behind_first (length before + 2) next refuse digits later first refuse_is limit_is others))

  own_name : (before : List (List ℕ)) → read_of before ≡ Ok read → list_any (λ (section : Section). bytes_eq section.name name) firsts ≡ false
  own_name before read_is =
      let own : IsOwn read = subst (λ said. IfOk said IsOwn) read_is (read_from-own 1 nothing_read before tt) in
      let here : IsOwnIn read.sections (Inside current) = subst (IsOwnIn read.sections) awaits.place own in
      subst (λ n. list_any (λ (section : Section). bytes_eq section.name n) read.sections ≡ false) awaits.name_is here

pub limit_text_law : LimitTextLaw
unfolding config_of
limit_text_law text name limit shards config by is =
    let keeps : IfOk (read_of (lines_of text)) (Keeps by.read.sections name limit by.awaits.table) =
    subst (λ lines. IfOk (read_of lines) (Keeps by.read.sections name limit by.awaits.table)) (sym by.lines)
    (all_lines name limit by.read by.awaits by.before by.track by.refuse by.number by.later by.read_is by.track_is by.refuse_is by.limit_is by.others) in
    let all : IfOk (read_of (lines_of text) >>= whole) (Served name limit shards) =
    ok_bind (Served name limit shards) (read_of (lines_of text)) whole
    (λ read e. served by.read.sections name limit shards by.awaits.table read (first_unmet read) by.awaits.first (own_name name limit by.read by.awaits by.before by.read_is) by.awaits.stored
    (subst (λ said. IfOk said (Keeps by.read.sections name limit by.awaits.table)) e keeps)) in
    subst (λ said. IfOk said (Served name limit shards)) is all
