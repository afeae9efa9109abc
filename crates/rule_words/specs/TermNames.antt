-- What the first word of a criterion asks.
use Rattle.std.specs.Prelude.{ℕ, ◌-◌, ◌==◌, ◌&&◌, not, true, false, Option, Some, None, option_map, option_and_then, List, [], ◌∷◌, length, take, drop, codes, if◌then◌else◌}
use Rattle.std.specs.Option.{option_or}
use Rattle.std.specs.Str.{bytes_eq}
use Rattle.base_lines.specs.Number.{number_of}
use Rattle.base_lines.specs.Parentheses.{before_parenthesis, from_parenthesis, has_closing, inside}
use Rattle.base_lines.specs.Words.{is_some_text}
use Rattle.stored_data.specs.Data.{counts_bytes}
use Rattle.stored_data.specs.Names.{datum_read_by}
use Rattle.stored_data.specs.declared.act.Act.TheVariants.{IncGpc0, IncGpc1, ClrGpc0, ClrGpc1, IncGpc}
use Rattle.stored_data.specs.declared.datum.Datum.{Datum}
use Rattle.stored_data.specs.declared.datum.Datum.TheVariants.{Gpt, Gpc}
use Rattle.rule_model.specs.declared.actions.Slot.{Slot}
use Rattle.rule_model.specs.declared.actions.Slot.TheVariants.{Sc0, Sc1, Sc2}
use Rattle.rule_model.specs.declared.criteria.Fetch.{Fetch}
use Rattle.rule_model.specs.declared.criteria.Fetch.TheVariants.{Element, Trackers}
use Rattle.rule_model.specs.declared.criteria.Fetch.TheVariants as fetches
use Rattle.rule_model.specs.declared.criteria.Measure.TheVariants.{SourcePort, DestinationPort, Tracked, Counted}
use Rattle.rule_model.specs.declared.criteria.Measure.TheVariants as measures
use Rattle.rule_words.specs.ElementNames.{element_of}
use Rattle.rule_words.specs.declared.elements.SlotElement.{SlotElement}
use Rattle.rule_words.specs.declared.term_names.Subject.{Subject}
use Rattle.rule_words.specs.declared.term_names.Subject.TheVariants.{Always, IsTracked, Source, Integer}

-- what stands beside a name in a table
abbrev pub named : {X : Type 0} → List ℕ → List (List ℕ × X) → Option X
named name [] = None
named name (row ∷ rows) = if bytes_eq name row.0 then Some row.1 else named name rows

-- the rest of a text that begins so
abbrev pub behind : List ℕ → List ℕ → Option (List ℕ)
behind prefix text = if bytes_eq (take (length prefix) text) prefix then Some (drop (length prefix) text) else None

-- the rest of a text that ends so
abbrev pub before : List ℕ → List ℕ → Option (List ℕ)
before end text = if bytes_eq (drop (length text - length end) text) end then Some (take (length text - length end) text) else None

-- ---- what is read of an entry

-- what is read of a datum: of bytes their kilobytes
abbrev pub fetch_by : Datum → Fetch
fetch_by datum = if counts_bytes datum then fetches.Kilobytes datum else fetches.Datum datum

unfoldable pub fetch_of : List ℕ → Option Fetch
fetch_of name = option_map fetch_by (datum_read_by name)

-- ---- of a slot's entry

-- what can be asked of a slot's entry alone
abbrev pub slot_subjects : Slot → List (List ℕ × Subject)
slot_subjects slot =
    (codes "tracked", IsTracked slot)
    ∷ (codes "trackers", Integer (Tracked slot Trackers))
    ∷ (codes "inc_gpc0", Integer (Counted slot IncGpc0))
    ∷ (codes "inc_gpc1", Integer (Counted slot IncGpc1))
    ∷ (codes "clr_gpc0", Integer (Counted slot ClrGpc0))
    ∷ (codes "clr_gpc1", Integer (Counted slot ClrGpc1))
    ∷ []

unfoldable pub slot_subject : Slot → List ℕ → Option Subject
slot_subject slot name = option_or (named name (slot_subjects slot)) (option_map (λ fetch. Integer (Tracked slot fetch)) (fetch_of name))

abbrev pub numbered : Slot → List ℕ
numbered Sc0 = codes "sc0_"
numbered Sc1 = codes "sc1_"
numbered Sc2 = codes "sc2_"

abbrev pub slot_number : Slot → ℕ
slot_number Sc0 = 0
slot_number Sc1 = 1
slot_number Sc2 = 2

-- X of sc_X(n), where n is the slot's number
abbrev pub with_number : Slot → List ℕ → Option (List ℕ)
with_number slot text =
    option_and_then (λ n. if n == slot_number slot then behind (codes "sc_") (before_parenthesis text) else None)
    (option_and_then number_of (inside (from_parenthesis text)))

-- X of sc0_X and of sc_X(0)
unfoldable pub on_slot : Slot → List ℕ → Option (List ℕ)
on_slot slot text = option_or (behind (numbered slot) text) (with_number slot text)

abbrev pub of_slot : Slot → List ℕ → Option Subject
of_slot slot text = option_and_then (slot_subject slot) (on_slot slot text)

-- ---- of an element of an array in a slot's entry

-- what can be asked of an element
abbrev pub element_subjects : SlotElement → List (List ℕ × Subject)
element_subjects element =
    (codes "sc_get_gpc", Integer (Tracked element.slot (Element (record { datum = Gpc; index = element.index }))))
    ∷ (codes "sc_get_gpt", Integer (Tracked element.slot (Element (record { datum = Gpt; index = element.index }))))
    ∷ (codes "sc_inc_gpc", Integer (Counted element.slot (IncGpc element.index)))
    ∷ []

-- a name, and i,n in parentheses
unfoldable pub element_subject : List ℕ → Option Subject
element_subject text =
    option_and_then (λ element. named (before_parenthesis text) (element_subjects element))
    (option_and_then element_of (inside (from_parenthesis text)))

-- ---- of the entry of the client's address

-- T of (T): some text without a closing parenthesis
unfoldable pub table_in : List ℕ → Option (List ℕ)
table_in text =
    option_and_then (λ table. if is_some_text table && not (has_closing table) then Some table else None)
    (option_and_then (before (codes ")")) (behind (codes "(") text))

-- the own section's table, or that of (T)
abbrev pub table_of : List ℕ → List ℕ → Option (List ℕ)
table_of own [] = Some own
table_of own (b ∷ bs) = table_in (b ∷ bs)

-- X, or X(T)
unfoldable pub source_subject : List ℕ → List ℕ → Option Subject
source_subject own text =
    option_and_then (λ fetch. option_map (λ table. Integer (measures.Source table fetch)) (table_of own (from_parenthesis text)))
    (fetch_of (before_parenthesis text))

abbrev pub of_source : List ℕ → List ℕ → Option Subject
of_source own text = option_and_then (source_subject own) (behind (codes "src_") text)

-- ---- all names

abbrev pub plain_subjects : List (List ℕ × Subject)
plain_subjects =
    (codes "always_true", Always true)
    ∷ (codes "always_false", Always false)
    ∷ (codes "src", Source)
    ∷ (codes "src_port", Integer SourcePort)
    ∷ (codes "dst_port", Integer DestinationPort)
    ∷ []

unfoldable pub plain_subject : List ℕ → Option Subject
plain_subject name = named name plain_subjects

-- what a name asks in the section of this name
unfoldable pub subject_of : List ℕ → List ℕ → Option Subject
subject_of own name =
    option_or (plain_subject name)
    (option_or (of_slot Sc0 name)
    (option_or (of_slot Sc1 name)
    (option_or (of_slot Sc2 name)
    (option_or (element_subject name)
    (of_source own name)))))
