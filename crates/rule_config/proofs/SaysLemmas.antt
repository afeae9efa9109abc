-- What a line says, against the place where it stands: a first table, a new name, a rule that its third word tells.
use Rattle.std.proofs.Common.{◌≡◌, ◌∙◌, refl, sym, ap, subst, ℕ, Bool, true, false, not, is_some, Option, Some, None, Result, Ok, Err, List, [], ◌∷◌, drop, codes, cond, IfOk, ◌-◌, ◌^◌}
use Rattle.std.specs.Str.{bytes_eq, is_utf8}
use Rattle.std.proofs.lemmas.Bool.{false≢true}
use Rattle.std.proofs.lemmas.Slice.Eq.{bytes_eq-Decides}
use Rattle.rule_addresses.specs.Addresses.{bind_of, server_of}
use Rattle.rule_model.specs.Reading.{◌>>=◌, demand}
use Rattle.rule_model.specs.Served.{has_backend, has_frontend}
use Rattle.rule_model.specs.declared.actions.Action.{Action}
use Rattle.rule_model.specs.declared.actions.Slot.{Slot}
use Rattle.rule_model.specs.declared.actions.Slot.TheVariants.{Sc0, Sc1, Sc2}
use Rattle.rule_model.specs.declared.criteria.Acl.{Acl}
use Rattle.rule_model.specs.declared.faults.Fault.{Fault}
use Rattle.rule_model.specs.declared.faults.Fault.TheVariants.{UnknownKeyword, SecondName, SecondServer, ModeHttp, NotUtf8}
use Rattle.rule_model.specs.declared.rules.Rule.{Rule as ARule}
use Rattle.rule_model.specs.declared.sections.SectionKind.{SectionKind}
use Rattle.rule_words.specs.Lines.{first_word, is_plain, other_words, words_of}
use Rattle.rule_words.specs.Names.{is_name}
use Rattle.base_lines.specs.Parentheses.{before_parenthesis}
use Rattle.rule_words.specs.Numbers.{bounded_number}
use Rattle.rule_words.specs.Table.{found, once, table_of}
use Rattle.rule_words.proofs.TableLemmas.{ok_bind, ok_if}
use Rattle.rule_words.specs.Conditions.{condition_of, criterion_of}
use Rattle.rule_eval.specs.Limit.{is_sc0, tracks_sc0}
use Rattle.rule_config.specs.Actions.{action_of, count_of, element_in, key_of, rule_of, rule_with, slot_of, table_named, track_of, tracked_slot}
use Rattle.rule_config.specs.Lines.{has_name, line_says, says_by, says_in, section_says, words_say}
use Rattle.rule_config.specs.Statements.{acl_says, bind_says, default_backend_says, is_passed_line, is_passed_section, keyword_says, mode_says, no_more, section_kind, server_says, stick_table_says, tcp_request_says}
use Rattle.rule_config.specs.declared.reading.Place.{Place}
use Rattle.rule_config.specs.declared.reading.Place.TheVariants.{Outside, Passed, Inside}
use Rattle.rule_config.specs.declared.reading.Reading.{Reading}
use Rattle.rule_config.specs.declared.statements.OpenSection.{OpenSection}
use Rattle.rule_config.specs.declared.statements.Statement.{Statement}
use Rattle.rule_config.specs.declared.statements.Statement.TheVariants.{Opens, StickTable, Rule}

-- ---- actions

ok_test : {B E : Type 0} (P : B → Type 0) (test : Bool) (one other : Result B E) → (test ≡ true → IfOk one P) → (test ≡ false → IfOk other P) → IfOk (cond test one other) P
ok_test P true one other h k = h refl
ok_test P false one other h k = k refl

-- a word that is one isn't another
is_not : (word one other : List ℕ) → bytes_eq word one ≡ true → bytes_eq one other ≡ false → bytes_eq word other ≡ false
is_not word one other is not_other = ap (λ w. bytes_eq w other) ((bytes_eq-Decides word one).0 is) ∙ not_other

abbrev is_slot_0 : Option Slot → Bool
is_slot_0 None = false
is_slot_0 (Some slot) = is_sc0 slot

slot_told : (word : List ℕ) → is_slot_0 (tracked_slot word) ≡ bytes_eq word (codes "track-sc0")
unfolding tracked_slot
slot_told word = by (bytes_eq word (codes "track-sc0")) (bytes_eq word (codes "track-sc1")) (bytes_eq word (codes "track-sc2"))
  where
    by : (a b c : Bool) → is_slot_0 (cond a (Some Sc0) (cond b (Some Sc1) (cond c (Some Sc2) None))) ≡ a
    by true b c = refl
    by false true c = refl
    by false false true = refl
    by false false false = refl

-- an action and the words behind it: it tracks by sc0 exactly where this says so
abbrev Tracks : Bool → Action × List (List ℕ) → Type 0
Tracks told read = tracks_sc0 read.0 ≡ told

track-told : (own : List ℕ) (slot : Slot) (words : List (List ℕ)) → IfOk (track_of own slot words) (Tracks (is_sc0 slot))
unfolding track_of
track-told own slot words =
    ok_bind (Tracks (is_sc0 slot)) (key_of (first_word words)) _ (λ _ _.
    ok_bind (Tracks (is_sc0 slot)) (table_named own (other_words words)) _ (λ _ _. refl))

count-told : (word : List ℕ) (words : List (List ℕ)) → IfOk (count_of word words) (Tracks false)
unfolding count_of
count-told word words =
    ok_if (Tracks false) (bytes_eq (before_parenthesis word) (codes "sc-inc-gpc0")) _ _ (ok_bind (Tracks false) (slot_of word) _ (λ _ _. refl))
    (ok_if (Tracks false) (bytes_eq (before_parenthesis word) (codes "sc-inc-gpc1")) _ _ (ok_bind (Tracks false) (slot_of word) _ (λ _ _. refl))
    (ok_if (Tracks false) (bytes_eq (before_parenthesis word) (codes "sc-set-gpt0")) _ _
    (ok_bind (Tracks false) (slot_of word) _ (λ _ _. ok_bind (Tracks false) (bounded_number 0 (2 ^ 32 - 1) (first_word words)) _ (λ _ _. refl)))
    (ok_if (Tracks false) (bytes_eq (before_parenthesis word) (codes "sc-inc-gpc")) _ _ (ok_bind (Tracks false) (element_in word) _ (λ _ _. refl))
    (ok_if (Tracks false) (bytes_eq (before_parenthesis word) (codes "sc-set-gpt")) _ _
    (ok_bind (Tracks false) (element_in word) _ (λ _ _. ok_bind (Tracks false) (bounded_number 0 (2 ^ 32 - 1) (first_word words)) _ (λ _ _. refl)))
    tt))))

tracked-told : (own word : List ℕ) (words : List (List ℕ)) (slot : Option Slot) (told : Bool) → is_slot_0 slot ≡ told
    → IfOk (elim slot [ Some s ↦ track_of own s words | None ↦ count_of word words ]) (Tracks told)
tracked-told own word words (Some slot) told is = subst (λ b. IfOk (track_of own slot words) (Tracks b)) is (track-told own slot words)
tracked-told own word words None told is = subst (λ b. IfOk (count_of word words) (Tracks b)) is (count-told word words)

action-told : (own : List ℕ) (words : List (List ℕ)) → IfOk (action_of own words) (Tracks (bytes_eq (first_word words) (codes "track-sc0")))
unfolding action_of
action-told own [] = tt
action-told own (word ∷ words) =
    ok_test (Tracks (bytes_eq word (codes "track-sc0"))) (bytes_eq word (codes "accept")) _ _ (λ is. sym (is_not word (codes "accept") (codes "track-sc0") is refl)) (λ _.
    ok_test (Tracks (bytes_eq word (codes "track-sc0"))) (bytes_eq word (codes "reject")) _ _ (λ is. sym (is_not word (codes "reject") (codes "track-sc0") is refl)) (λ _.
    tracked-told own word words (tracked_slot word) (bytes_eq word (codes "track-sc0")) (slot_told word)))

rule_with-action : (own : List ℕ) (acls : List Acl) (action : Action) (words : List (List ℕ)) → IfOk (rule_with own acls action words) (λ (rule : ARule). rule.action ≡ action)
unfolding rule_with
rule_with-action own acls action [] = refl
rule_with-action own acls action (word ∷ words) =
    ok_if (λ (rule : ARule). rule.action ≡ action) (bytes_eq word (codes "if")) _ _ (ok_bind (λ (rule : ARule). rule.action ≡ action) (condition_of own acls words) _ (λ _ _. refl))
    (ok_if (λ (rule : ARule). rule.action ≡ action) (bytes_eq word (codes "unless")) _ _ (ok_bind (λ (rule : ARule). rule.action ≡ action) (condition_of own acls words) _ (λ _ _. refl)) tt)

rule-told : (own : List ℕ) (acls : List Acl) (words : List (List ℕ)) → IfOk (rule_of own acls words) (λ (rule : ARule). tracks_sc0 rule.action ≡ bytes_eq (first_word words) (codes "track-sc0"))
unfolding rule_of
rule-told own acls words =
    ok_bind (λ (rule : ARule). tracks_sc0 rule.action ≡ bytes_eq (first_word words) (codes "track-sc0")) (action_of own words) _ (λ read e.
    let told : tracks_sc0 read.0 ≡ bytes_eq (first_word words) (codes "track-sc0") = subst (λ r. IfOk r (Tracks (bytes_eq (first_word words) (codes "track-sc0")))) e (action-told own words) in
    weaker (rule_with own acls read.0 read.1) (λ rule is. ap tracks_sc0 is ∙ told) (rule_with-action own acls read.0 read.1))
  where
    weaker : {B E : Type 0} {P Q : B → Type 0} (r : Result B E) → ((b : B) → P b → Q b) → IfOk r P → IfOk r Q
    weaker (Ok b) f h = f b h
    weaker (Err e) f h = tt

-- ---- what a line says

abbrev pub has_table : Place → Bool
has_table (Inside current) = is_some current.section.table
has_table Outside = false
has_table Passed = false

-- a table is the first of its section, a name is new, and a rule tracks by sc0 where the third word says so
abbrev pub Fits : Place → (List ℕ → Bool) → List (List ℕ) → Statement → Type 0
Fits place named words (StickTable table) = has_table place ≡ false
Fits place named words (Opens kind name) = named name ≡ false
Fits place named words (Rule rule) = tracks_sc0 rule.action ≡ bytes_eq (first_word (drop 2 words)) (codes "track-sc0")
Fits place named words _ = Unit {0}

demanded : {B : Type 0} (P : B → Type 0) (test : Bool) (fault : Fault) (next : Unit {0} → Result B Fault) → (test ≡ true → IfOk (next tt) P) → IfOk (demand test fault >>= next) P
demanded P true fault next h = h refl
demanded P false fault next h = tt

true_not : (b : Bool) → not b ≡ true → b ≡ false
true_not true is = absurd (false≢true is)
true_not false is = refl

module _ (named : List ℕ → Bool) (current : OpenSection) (keyword : List ℕ) (words : List (List ℕ)) where
  abbrev Here : Statement → Type 0
  Here = Fits (Inside current) named (keyword ∷ words)

  mode-fits : IfOk (mode_says words) Here
  unfolding mode_says
  mode-fits =
      ok_bind Here (demand (not (bytes_eq (first_word words) (codes "http"))) ModeHttp) _ (λ _ _.
      ok_bind Here (demand (bytes_eq (first_word words) (codes "tcp")) UnknownKeyword) _ (λ _ _.
      ok_bind Here (no_more (other_words words)) _ (λ _ _. tt)))

  bind-fits : IfOk (bind_says current.section words) Here
  unfolding bind_says
  bind-fits =
      ok_bind Here (demand (has_frontend current.section.kind) UnknownKeyword) _ (λ _ _.
      ok_bind Here (once current.section.bind) _ (λ _ _.
      ok_bind Here (found (bind_of (first_word words)) UnknownKeyword) _ (λ _ _.
      ok_bind Here (no_more (other_words words)) _ (λ _ _. tt))))

  server-fits : IfOk (server_says current.section words) Here
  unfolding server_says
  server-fits =
      ok_bind Here (demand (has_backend current.section.kind) UnknownKeyword) _ (λ _ _.
      ok_bind Here (demand (not (is_some current.section.server)) SecondServer) _ (λ _ _.
      ok_bind Here (demand (is_name (first_word words)) UnknownKeyword) _ (λ _ _.
      ok_bind Here (found (server_of (first_word (other_words words))) UnknownKeyword) _ (λ _ _. tt))))

  default_backend-fits : IfOk (default_backend_says current.section words) Here
  unfolding default_backend_says
  default_backend-fits =
      ok_bind Here (demand (has_frontend current.section.kind) UnknownKeyword) _ (λ _ _.
      ok_bind Here (once current.section.default_backend) _ (λ _ _.
      ok_bind Here (demand (is_name (first_word words)) UnknownKeyword) _ (λ _ _.
      ok_bind Here (no_more (other_words words)) _ (λ _ _. tt))))

  stick_table-fits : IfOk (stick_table_says current.section words) Here
  unfolding stick_table_says
  stick_table-fits =
      demanded Here (not (is_some current.section.table)) SecondName _ (λ none.
      ok_bind Here (table_of words) _ (λ _ _. true_not (is_some current.section.table) none))

  acl-fits : IfOk (acl_says current.section words) Here
  unfolding acl_says
  acl-fits =
      ok_bind Here (demand (has_frontend current.section.kind) UnknownKeyword) _ (λ _ _.
      ok_bind Here (demand (is_name (first_word words)) UnknownKeyword) _ (λ _ _.
      ok_bind Here (criterion_of current.section.name (other_words words)) _ (λ _ _. tt)))

  tcp_request-fits : IfOk (tcp_request_says current words) Here
  unfolding tcp_request_says
  tcp_request-fits =
      ok_bind Here (demand (has_frontend current.section.kind) UnknownKeyword) _ (λ _ _.
      ok_bind Here (demand (bytes_eq (first_word words) (codes "connection")) UnknownKeyword) _ (λ _ _.
      ok_bind Here (rule_of current.section.name current.acls (other_words words)) _ (λ rule e.
      subst (λ r. IfOk r (λ (rule : ARule). tracks_sc0 rule.action ≡ bytes_eq (first_word (other_words words)) (codes "track-sc0"))) e
      (rule-told current.section.name current.acls (other_words words)))))

  keyword-fits : IfOk (keyword_says current keyword words) Here
  unfolding keyword_says
  keyword-fits =
      ok_if Here (bytes_eq keyword (codes "mode")) _ _ mode-fits
      (ok_if Here (bytes_eq keyword (codes "bind")) _ _ bind-fits
      (ok_if Here (bytes_eq keyword (codes "server")) _ _ server-fits
      (ok_if Here (bytes_eq keyword (codes "default_backend")) _ _ default_backend-fits
      (ok_if Here (bytes_eq keyword (codes "stick-table")) _ _ stick_table-fits
      (ok_if Here (bytes_eq keyword (codes "acl")) _ _ acl-fits
      (ok_if Here (bytes_eq keyword (codes "tcp-request")) _ _ tcp_request-fits tt))))))

says_in-fits : (place : Place) (named : List ℕ → Bool) (plain : Bool) (word : List ℕ) (words : List (List ℕ)) → IfOk (says_in place plain word words) (Fits place named (word ∷ words))
says_in-fits Outside named plain word words = tt
says_in-fits Passed named plain word words = tt
says_in-fits (Inside current) named plain word words =
    ok_if (Fits (Inside current) named (word ∷ words)) (is_passed_line word) _ _ tt
    (ok_bind (Fits (Inside current) named (word ∷ words)) (demand plain UnknownKeyword) _ (λ _ _. keyword-fits named current word words))

section-fits : (place : Place) (all : List (List ℕ)) (read : Reading) (kind : SectionKind) (words : List (List ℕ)) → IfOk (section_says read kind words) (Fits place (has_name read) all)
unfolding section_says
section-fits place all read kind words =
    ok_bind (Fits place (has_name read) all) (demand (is_name (first_word words)) UnknownKeyword) _ (λ _ _.
    demanded (Fits place (has_name read) all) (not (has_name read (first_word words))) SecondName _ (λ new.
    ok_bind (Fits place (has_name read) all) (no_more (other_words words)) _ (λ _ _. true_not (has_name read (first_word words)) new)))

says_by-fits : (kind : Option SectionKind) (read : Reading) (plain : Bool) (word : List ℕ) (words : List (List ℕ)) → IfOk (says_by kind read plain word words) (Fits read.place (has_name read) (word ∷ words))
says_by-fits (Some kind) read plain word words =
    ok_bind (Fits read.place (has_name read) (word ∷ words)) (demand plain UnknownKeyword) _ (λ _ _. section-fits read.place (word ∷ words) read kind words)
says_by-fits None read plain word words = says_in-fits read.place (has_name read) plain word words

words-fit : (read : Reading) (plain : Bool) (words : List (List ℕ)) → IfOk (words_say read plain words) (Fits read.place (has_name read) words)
unfolding words_say
words-fit read plain [] = tt
words-fit read plain (word ∷ words) =
    ok_if (Fits read.place (has_name read) (word ∷ words)) (is_passed_section word) _ _ tt (says_by-fits (section_kind word) read plain word words)

pub line_fits : (read : Reading) (line : List ℕ) → IfOk (line_says read line) (Fits read.place (has_name read) (words_of line))
unfolding line_says
line_fits read line = ok_bind (Fits read.place (has_name read) (words_of line)) (demand (is_utf8 line) NotUtf8) _ (λ _ _. words-fit read (is_plain line) (words_of line))

-- ---- the lines of known rules

pub rule_said : (read : Reading) (line : List ℕ) (current : OpenSection) (words : List (List ℕ)) (rule : ARule) → read.place ≡ Inside current
    → words_of line ≡ codes "tcp-request" ∷ codes "connection" ∷ words → rule_of current.section.name current.acls words ≡ Ok rule → IfOk (line_says read line) (λ statement. statement ≡ Rule rule)
unfolding line_says words_say section_kind keyword_says tcp_request_says
rule_said read line current words rule place is rule_is =
    let P : Statement → Type 0 = λ statement. statement ≡ Rule rule in
    ok_bind P (demand (is_utf8 line) NotUtf8) _ (λ _ _.
    subst (λ ws. IfOk (words_say read (is_plain line) ws) P) (sym is)
    (subst (λ where_it_is. IfOk (says_in where_it_is (is_plain line) (codes "tcp-request") (codes "connection" ∷ words)) P) (sym place)
    (ok_bind P (demand (is_plain line) UnknownKeyword) _ (λ _ _.
    ok_bind P (demand (has_frontend current.section.kind) UnknownKeyword) _ (λ _ _.
    subst (λ r. IfOk (r >>= (λ rule. Ok (Rule rule))) P) (sym rule_is) refl)))))
