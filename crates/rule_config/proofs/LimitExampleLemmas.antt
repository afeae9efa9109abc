-- The worked example, computed.
use Rattle.std.proofs.Common.{◌≡◌, refl, ℕ, ◌≤◌, ◌^◌, arith, false, Some, List, [], ◌∷◌, codes, length, Result, Ok, Err}
use Rattle.base_lines.specs.Number.{number_of}
use Rattle.stored_data.specs.Names.{datum_of}
use Rattle.stored_data.specs.declared.datum.Datum.TheVariants.{ConnCur}
use Rattle.rule_model.specs.declared.sections.SectionKind.TheVariants.{Frontend}
use Rattle.stick_key.specs.AddressOf.{dotted_of}
use Rattle.stick_key.specs.declared.kind.KeyType.TheVariants.{Ip}
use Rattle.rule_model.specs.Reading.{◌>>=◌}
use Rattle.rule_model.specs.declared.sections.Config.{Config}
use Rattle.rule_addresses.specs.Addresses.{bind_of, server_of}
use Rattle.rule_words.specs.Lines.{lines_of}
use Rattle.rule_words.specs.Numbers.{size_of, size_unit, time_of, time_unit}
use Rattle.rule_words.specs.Table.{kind_of, table_of, with_item, with_setting}
use Rattle.rule_words.specs.Conditions.{criteria_of}
use Rattle.rule_words.specs.TermNames.{fetch_of, on_slot, plain_subject, slot_subject, subject_of}
use Rattle.rule_words.specs.Values.{operator_of, pattern_of}
use Rattle.rule_config.specs.Actions.{action_of, key_of, rule_of, rule_with, table_named, track_of, tracked_slot}
use Rattle.rule_config.specs.Config.{config_of, nothing_read, read_of, whole}
use Rattle.rule_config.specs.Lines.{new_section, section_says, with_statement, words_say}
use Rattle.rule_config.specs.Statements.{bind_says, default_backend_says, keyword_says, section_kind, server_says, stick_table_says, tcp_request_says}
use Rattle.rule_config.specs.declared.reading.Place.{Place}
use Rattle.rule_config.specs.declared.reading.Place.TheVariants.{Outside, Passed, Inside}
use Rattle.rule_config.specs.declared.reading.Reading.{Reading}
use Rattle.rule_config.specs.declared.statements.OpenSection.{OpenSection}
use Rattle.rule_config.proofs.ExampleLemmas.{text_config, text_lines, texts_from}
use Rattle.rule_config.specs.LimitExamples.{ExampleLaw, limiting}
use Rattle.rule_config.specs.Text.{LimitsByText}
use Rattle.rule_config.proofs.TextLemmas.{limit_text_law}

abbrev before : List (List ℕ)
before = codes "frontend www" ∷ codes "    bind :8080" ∷ codes "    stick-table type ip size 100k expire 10m store conn_cur" ∷ []

abbrev value_of : {A E : Type 0} → A → Result A E → A
value_of other (Ok a) = a
value_of other (Err e) = other

-- what the lines before the two come to
begins : Reading
begins = value_of nothing_read (texts_from 1 nothing_read before)

begins_is : read_of before ≡ Ok begins
unfolding begins words_say section_says section_kind with_statement keyword_says bind_says bind_of stick_table_says table_of with_setting kind_of size_of size_unit time_of time_unit number_of with_item datum_of
begins_is = text_lines 1 nothing_read before refl

abbrev open_in : Place → OpenSection
open_in (Inside current) = current
open_in Outside = new_section Frontend []
open_in Passed = new_section Frontend []

limits_20 : LimitsByText limiting (codes "www") 20
unfolding begins words_say section_says section_kind with_statement keyword_says bind_says bind_of stick_table_says table_of with_setting kind_of size_of size_unit time_of time_unit number_of with_item datum_of
limits_20 = record {
  before = before;
  track = codes "    tcp-request connection track-sc0 src";
  refuse = codes "    tcp-request connection reject if { sc0_conn_cur gt 20 }";
  later = codes "    default_backend app" ∷ codes "backend app" ∷ codes "    server app1 127.0.0.1:9000" ∷ [] ∷ [];
  lines = refl;
  read = begins;
  read_is = begins_is;
  awaits = record {
    current = open_in begins.place;
    place = refl;
    name_is = refl;
    frontend = refl;
    first = refl;
    table = record { kind = Ip; size = 102400; expire = Some 600000; nopurge = false; columns = record { datum = ConnCur; period = 0; count = 0 } ∷ [] };
    table_is = refl;
    stored = refl;
    no_rules = refl;
  };
  track_is = refl;
  number = codes "20";
  refuse_is = refl;
  limit_is = refl;
  others = refl;
}

-- what all its lines come to
said : Config
said = value_of (record { sections = []; warnings = [] }) (texts_from 1 nothing_read (lines_of limiting) >>= whole)

said_is : config_of limiting ≡ Ok said
unfolding said words_say section_says section_kind with_statement keyword_says bind_says bind_of stick_table_says table_of with_setting kind_of size_of size_unit time_of time_unit number_of with_item datum_of tcp_request_says rule_of rule_with action_of tracked_slot track_of key_of table_named criteria_of subject_of plain_subject on_slot slot_subject fetch_of operator_of pattern_of default_backend_says server_says server_of dotted_of
said_is = text_config limiting refl

few : length said.sections ≤ 2 ^ 32
unfolding said words_say section_says section_kind with_statement keyword_says bind_says bind_of stick_table_says table_of with_setting kind_of size_of size_unit time_of time_unit number_of with_item datum_of tcp_request_says rule_of rule_with action_of tracked_slot track_of key_of table_named criteria_of subject_of plain_subject on_slot slot_subject fetch_of operator_of pattern_of default_backend_says server_says server_of dotted_of
few = let two : length said.sections ≡ 2 = refl in omega (arith, two)

pub example_law : ExampleLaw
example_law = record {
  by_text = limits_20;
  config = said;
  is_said = said_is;
  served = λ shards. limit_text_law limiting (codes "www") 20 shards said limits_20 said_is few;
}
