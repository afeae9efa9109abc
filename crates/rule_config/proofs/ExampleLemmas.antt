-- Texts in ASCII, read: the faults and rules of the worked examples.
use Rattle.std.proofs.Common.{◌≡◌, ◌∙◌, refl, ap, ℕ, zero, suc, ◌+◌, ◌<◌, nat_lt, Bool, true, false, ◌&&◌, arith, List, [], ◌∷◌, codes, Result, Ok, Err}
use Rattle.std.specs.List.{list_all}
use Rattle.std.specs.Str.{IsAscii, is_utf8}
use Rattle.std.proofs.lemmas.Bool.{false≢true}
use Rattle.std.proofs.lemmas.Bool.Decides.{nat_tests}
use Rattle.std.proofs.lemmas.Str.{IsUtf8-from_ascii, is_utf8-from_IsUtf8}
use Rattle.base_lines.specs.Number.{number_of}
use Rattle.stored_data.specs.Names.{datum_of}
use Rattle.rule_model.specs.Reading.{◌>>=◌, demand}
use Rattle.rule_model.specs.declared.faults.Fault.{Fault}
use Rattle.rule_model.specs.declared.faults.Fault.TheVariants.{BadCondition, BadNumber, BadSize, NotUtf8, UnknownAcl, UnknownTable, UnknownType}
use Rattle.rule_words.specs.Lines.{is_plain, lines_of, words_of}
use Rattle.rule_words.specs.Numbers.{size_of, size_unit, time_of, time_unit}
use Rattle.rule_words.specs.Table.{kind_of, table_of, with_item, with_setting}
use Rattle.rule_words.specs.Conditions.{criteria_of}
use Rattle.rule_words.specs.TermNames.{fetch_of, on_slot, plain_subject, slot_subject, subject_of}
use Rattle.rule_words.specs.Values.{operator_of, pattern_of, range_of}
use Rattle.rule_config.specs.Actions.{action_of, key_of, rule_of, rule_with, table_named, track_of, tracked_slot}
use Rattle.rule_config.specs.Config.{at_line, config_of, nothing_read, read_from, whole}
use Rattle.rule_config.specs.Examples.{ExamplesLaw, frontend, limiting, rules_of, tables_in, with_table}
use Rattle.rule_config.specs.Lines.{line_says, section_says, with_line, with_statement, words_say}
use Rattle.rule_config.specs.Statements.{default_backend_says, keyword_says, section_kind, stick_table_says, tcp_request_says}
use Rattle.rule_config.specs.declared.reading.Reading.{Reading}

abbrev pub in_ascii : List ℕ → Bool
in_ascii line = list_all (λ b. nat_lt b 128) line

both : (a b : Bool) → (a && b) ≡ true → (a ≡ true) × (b ≡ true)
both true b is = (refl, is)
both false b is = absurd (false≢true is)

below : (b : ℕ) → nat_lt b 128 ≡ true → b < 128
below b is = grind (arith, nat_tests)

bytes : (line : List ℕ) → in_ascii line ≡ true → IsAscii line
bytes [] ascii i = omega arith
bytes (b ∷ bs) ascii zero = below b (both (nat_lt b 128) (in_ascii bs) ascii).0
bytes (b ∷ bs) ascii (suc i) = bytes bs (both (nat_lt b 128) (in_ascii bs) ascii).1 i

is_text : (line : List ℕ) → in_ascii line ≡ true → is_utf8 line ≡ true
is_text line ascii = is_utf8-from_IsUtf8 line (IsUtf8-from_ascii line (bytes line ascii))

-- a line that is a text, read
abbrev pub with_text : ℕ → Reading → List ℕ → Result Reading Fault
with_text number read line = words_say read (is_plain line) (words_of line) >>= (λ statement. Ok (with_statement number read statement))

text_line : (number : ℕ) (read : Reading) (line : List ℕ) → in_ascii line ≡ true → with_line number read line ≡ with_text number read line
unfolding line_says
text_line number read line ascii = ap (λ b. (demand b NotUtf8 >>= (λ _. words_say read (is_plain line) (words_of line))) >>= (λ statement. Ok (with_statement number read statement))) (is_text line ascii)

-- and all of them
abbrev pub texts_from : ℕ → Reading → List (List ℕ) → Result Reading (ℕ × Fault)
texts_from number read [] = Ok read
texts_from number read (line ∷ lines) = at_line number (with_text number read line) >>= (λ next. texts_from (number + 1) next lines)

pub text_lines : (number : ℕ) (read : Reading) (lines : List (List ℕ)) → list_all in_ascii lines ≡ true → read_from number read lines ≡ texts_from number read lines
unfolding read_from
text_lines number read [] ascii = refl
text_lines number read (line ∷ lines) ascii =
    let parts = both (in_ascii line) (list_all in_ascii lines) ascii in
    ap (λ said. at_line number said >>= (λ next. read_from (number + 1) next lines)) (text_line number read line parts.0)
    ∙ later (at_line number (with_text number read line)) (λ next. text_lines (number + 1) next lines parts.1)
  where
    later : (said : Result Reading (ℕ × Fault)) → ((next : Reading) → read_from (number + 1) next lines ≡ texts_from (number + 1) next lines) → (said >>= (λ next. read_from (number + 1) next lines)) ≡ (said >>= (λ next. texts_from (number + 1) next lines))
    later (Ok next) same = same next
    later (Err fault) same = refl

pub text_config : (text : List ℕ) → list_all in_ascii (lines_of text) ≡ true → config_of text ≡ (texts_from 1 nothing_read (lines_of text) >>= whole)
unfolding config_of
text_config text ascii = ap (λ said. said >>= whole) (text_lines 1 nothing_read (lines_of text) ascii)

-- ---- the examples

too_large : config_of (frontend (codes "stick-table type ip size 2g")) ≡ Err (2, BadSize)
unfolding words_say section_says section_kind with_statement keyword_says stick_table_says table_of with_setting kind_of size_of size_unit number_of
too_large = text_config (frontend (codes "stick-table type ip size 2g")) refl

too_long : config_of (frontend (codes "stick-table type ip size 10 expire 25d")) ≡ Err (2, BadNumber)
unfolding words_say section_says section_kind with_statement keyword_says stick_table_says table_of with_setting kind_of size_of size_unit number_of time_of time_unit
too_long = text_config (frontend (codes "stick-table type ip size 10 expire 25d")) refl

without_period : config_of (frontend (codes "stick-table type ip size 10 store conn_rate")) ≡ Err (2, UnknownType)
unfolding words_say section_says section_kind with_statement keyword_says stick_table_says table_of with_setting kind_of size_of size_unit number_of with_item datum_of
without_period = text_config (frontend (codes "stick-table type ip size 10 store conn_rate")) refl

range_under_gt : config_of (with_table (codes "tcp-request connection reject if { src_port gt 1:2 }")) ≡ Err (3, BadCondition)
unfolding words_say section_says section_kind with_statement keyword_says stick_table_says table_of with_setting kind_of size_of size_unit number_of with_item datum_of tcp_request_says rule_of rule_with action_of criteria_of subject_of plain_subject operator_of pattern_of range_of
range_under_gt = text_config (with_table (codes "tcp-request connection reject if { src_port gt 1:2 }")) refl

unknown_acl : config_of (with_table (codes "tcp-request connection reject if worse")) ≡ Err (3, UnknownAcl)
unfolding words_say section_says section_kind with_statement keyword_says stick_table_says table_of with_setting kind_of size_of size_unit number_of with_item datum_of tcp_request_says rule_of rule_with action_of criteria_of
unknown_acl = text_config (with_table (codes "tcp-request connection reject if worse")) refl

unknown_table : config_of (with_table (codes "tcp-request connection track-sc0 src table u\n")) ≡ Err (3, UnknownTable)
unfolding words_say section_says section_kind with_statement keyword_says stick_table_says table_of with_setting kind_of size_of size_unit number_of with_item datum_of tcp_request_says rule_of rule_with action_of tracked_slot track_of key_of table_named
unknown_table = text_config (with_table (codes "tcp-request connection track-sc0 src table u\n")) refl

unknown_backend : config_of (frontend (codes "default_backend c\n")) ≡ Err (2, UnknownTable)
unfolding words_say section_says section_kind with_statement keyword_says default_backend_says
unknown_backend = text_config (frontend (codes "default_backend c\n")) refl

pub examples_law : ExamplesLaw
unfolding words_say section_says section_kind with_statement keyword_says stick_table_says table_of with_setting kind_of size_of size_unit number_of with_item datum_of tcp_request_says rule_of rule_with action_of tracked_slot track_of key_of table_named criteria_of subject_of plain_subject on_slot slot_subject fetch_of operator_of pattern_of
examples_law = record {
  size = too_large;
  time = too_long;
  rate_without_period = without_period;
  range_under_gt = range_under_gt;
  unknown_acl = unknown_acl;
  unknown_table = unknown_table;
  unknown_backend = unknown_backend;
  limit_table = ap tables_in (text_config limiting refl);
  limit = ap rules_of (text_config limiting refl);
}
