-- What a rule does, and when: the words behind `tcp-request connection`.
use Rattle.std.specs.Prelude.{◌≡◌, ℕ, ◌-◌, ◌^◌, ◌==◌, ◌&&◌, not, Bool, true, false, Option, Some, None, Result, Ok, Err, List, [], ◌∷◌, codes, if◌then◌else◌}
use Rattle.std.specs.Borrow.{Bor}
use Rattle.std.specs.Str.{bytes_eq}
use Rattle.base_lines.specs.Parentheses.{before_parenthesis, from_parenthesis, has_closing, inside}
use Rattle.base_lines.specs.Words.{is_some_text}
use Rattle.stored_data.specs.declared.act.Act.TheVariants.{IncGpc0, IncGpc1, SetGpt0, IncGpc, SetGpt}
use Rattle.rule_model.specs.Reading.{◌>>=◌, demand, Fails}
use Rattle.rule_model.specs.declared.actions.Slot.{Slot}
use Rattle.rule_model.specs.declared.actions.Slot.TheVariants.{Sc0, Sc1, Sc2}
use Rattle.rule_model.specs.declared.actions.KeyExpression.{KeyExpression}
use Rattle.rule_model.specs.declared.actions.KeyExpression.TheVariants.{Source, SourcePort, DestinationPort, Integer, Text}
use Rattle.rule_model.specs.declared.actions.Action.{Action}
use Rattle.rule_model.specs.declared.actions.Action.TheVariants.{Accept, Reject, Track, Count}
use Rattle.rule_model.specs.declared.criteria.Acl.{Acl}
use Rattle.rule_model.specs.declared.rules.Rule.{Rule}
use Rattle.rule_model.specs.declared.faults.Fault.{Fault}
use Rattle.rule_model.specs.declared.faults.Fault.TheVariants.{UnknownKeyword, BadNumber}
use Rattle.rule_model.specs.declared.faults.ReadError.{ReadError}
use Rattle.rule_words.specs.Lines.{first_word, other_words}
use Rattle.rule_words.specs.Numbers.{bounded_number}
use Rattle.rule_words.specs.Table.{found}
use Rattle.rule_words.specs.Conditions.{condition_of}
use Rattle.rule_words.specs.ElementNames.{element_of}
use Rattle.rule_words.specs.declared.elements.SlotElement.{SlotElement}

-- ---- keys

-- what stands in parentheses behind a name
abbrev pub argument : List ℕ → Result (List ℕ) Fault
argument word = found (inside (from_parenthesis word)) UnknownKeyword

-- some text without a closing parenthesis
abbrev pub is_key_text : List ℕ → Bool
is_key_text text = is_some_text text && not (has_closing text)

-- src, src_port, dst_port, int(V) or str(TEXT)
unfoldable pub key_of : List ℕ → Result KeyExpression Fault
key_of word =
    if bytes_eq word (codes "src") then Ok Source
    else (if bytes_eq word (codes "src_port") then Ok SourcePort
    else (if bytes_eq word (codes "dst_port") then Ok DestinationPort
    else (if bytes_eq (before_parenthesis word) (codes "int") then (do
      text ← argument word
      number ← bounded_number 0 (2 ^ 32 - 1) text
      Ok (Integer number))
    else (if bytes_eq (before_parenthesis word) (codes "str") then (do
      text ← argument word
      good ← demand (is_key_text text) UnknownKeyword
      Ok (Text text))
    else Err UnknownKeyword))))

-- ---- actions

-- track-sc0, track-sc1, track-sc2
unfoldable pub tracked_slot : List ℕ → Option Slot
tracked_slot word =
    if bytes_eq word (codes "track-sc0") then Some Sc0
    else (if bytes_eq word (codes "track-sc1") then Some Sc1
    else (if bytes_eq word (codes "track-sc2") then Some Sc2
    else None))

abbrev pub numbered_slot : ℕ → Slot
numbered_slot n = if n == 0 then Sc0 else (if n == 1 then Sc1 else Sc2)

-- the slot whose number, 0 to 2, stands in parentheses
unfoldable pub slot_of : List ℕ → Result Slot Fault
slot_of word = do
  text ← argument word
  number ← bounded_number 0 2 text
  Ok (numbered_slot number)

-- the table behind the word table, or the section's own; and the words behind it
unfoldable pub table_named : List ℕ → List (List ℕ) → Result (List ℕ × List (List ℕ)) Fault
table_named own [] = Ok (own, [])
table_named own (word ∷ []) = if bytes_eq word (codes "table") then Err UnknownKeyword else Ok (own, word ∷ [])
table_named own (word ∷ name ∷ words) = if bytes_eq word (codes "table") then Ok (name, words) else Ok (own, word ∷ name ∷ words)

-- KEY, and perhaps table T
unfoldable pub track_of : List ℕ → Slot → List (List ℕ) → Result (Action × List (List ℕ)) Fault
track_of own slot words = do
  key ← key_of (first_word words)
  named ← table_named own (other_words words)
  Ok (Track slot key named.0, named.1)

-- the element of an array and the slot of i,n, which stand in parentheses
unfoldable pub element_in : List ℕ → Result SlotElement Fault
element_in word = do
  text ← argument word
  found (element_of text) BadNumber

-- sc-inc-gpc0(n), sc-inc-gpc1(n), sc-set-gpt0(n) and a value, sc-inc-gpc(i,n), or sc-set-gpt(i,n) and a value; anything else is no action
unfoldable pub count_of : List ℕ → List (List ℕ) → Result (Action × List (List ℕ)) Fault
count_of word words =
    if bytes_eq (before_parenthesis word) (codes "sc-inc-gpc0") then (do
      slot ← slot_of word
      Ok (Count slot IncGpc0, words))
    else (if bytes_eq (before_parenthesis word) (codes "sc-inc-gpc1") then (do
      slot ← slot_of word
      Ok (Count slot IncGpc1, words))
    else (if bytes_eq (before_parenthesis word) (codes "sc-set-gpt0") then (do
      slot ← slot_of word
      value ← bounded_number 0 (2 ^ 32 - 1) (first_word words)
      Ok (Count slot (SetGpt0 value), other_words words))
    else (if bytes_eq (before_parenthesis word) (codes "sc-inc-gpc") then (do
      element ← element_in word
      Ok (Count element.slot (IncGpc element.index), words))
    else (if bytes_eq (before_parenthesis word) (codes "sc-set-gpt") then (do
      element ← element_in word
      value ← bounded_number 0 (2 ^ 32 - 1) (first_word words)
      Ok (Count element.slot (SetGpt element.index value), other_words words))
    else Err UnknownKeyword))))

-- an action of the section of this name, and the words behind it
unfoldable pub action_of : List ℕ → List (List ℕ) → Result (Action × List (List ℕ)) Fault
action_of own [] = Err UnknownKeyword
action_of own (word ∷ words) =
    if bytes_eq word (codes "accept") then Ok (Accept, words)
    else (if bytes_eq word (codes "reject") then Ok (Reject, words)
    else (elim (tracked_slot word) [ Some slot ↦ track_of own slot words | None ↦ count_of word words ]))

-- ---- rules

-- a rule of an action: always, or if or unless a condition of the section holds
unfoldable pub rule_with : List ℕ → List Acl → Action → List (List ℕ) → Result Rule Fault
rule_with own acls action [] = Ok (record { action = action; unless = false; condition = None })
rule_with own acls action (word ∷ words) =
    if bytes_eq word (codes "if") then condition_of own acls words >>= (λ condition. Ok (record { action = action; unless = false; condition = Some condition }))
    else (if bytes_eq word (codes "unless") then condition_of own acls words >>= (λ condition. Ok (record { action = action; unless = true; condition = Some condition }))
    else Err UnknownKeyword)

unfoldable pub rule_of : List ℕ → List Acl → List (List ℕ) → Result Rule Fault
rule_of own acls words = action_of own words >>= (λ read. rule_with own acls read.0 read.1)

-- ---- what readers answer

-- the next word, if one was taken, and those that are left
abbrev pub with_next : Option (Bor (List ℕ)) → List (List ℕ) → List (List ℕ)
with_next None words = []
with_next (Some word) words = word.now ∷ words

-- what is answered is what reading gives, with these words behind it
abbrev pub GivesBefore : {X : Type 0} → Result (X × Option (Bor (List ℕ))) ReadError → List (List ℕ) → Result (X × List (List ℕ)) Fault → Type 0
GivesBefore (Ok read) left given = given ≡ Ok (read.0, with_next read.1 left)
GivesBefore (Err error) left given = Fails error given
