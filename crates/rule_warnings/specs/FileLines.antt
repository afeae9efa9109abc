-- What lines of a configuration say that never comes to anything: in sections that aren't served, in defaults, and of ACLs.
use Rattle.std.specs.Prelude.{ℕ, ◌+◌, Bool, true, false, not, ◌&&◌, ◌||◌, if◌then◌else◌, List, [], ◌∷◌, ◌++◌, drop, codes, Option, Some, None}
use Rattle.std.specs.Str.{bytes_eq}
use Rattle.rule_words.specs.Conditions.{is_closing, is_negated, is_opening}
use Rattle.rule_words.specs.Lines.{first_word, lines_of, other_words, words_of}
use Rattle.rule_warnings.specs.NoEffect.{listed}
use Rattle.rule_warnings.specs.declared.warning.Warning.{Warning}
use Rattle.rule_warnings.specs.declared.warning.Warning.TheVariants.{Unserved, InDefaults, UnusedAcl}

-- ---- sections

-- the first word of a line
abbrev pub keyword : List ℕ → List ℕ
keyword line = first_word (words_of line)

-- a section that listens and has rules
abbrev pub is_front : List ℕ → Bool
is_front word = bytes_eq word (codes "frontend") || bytes_eq word (codes "listen")

-- a section whose lines are read
abbrev pub is_read : List ℕ → Bool
is_read word = is_front word || bytes_eq word (codes "backend")

abbrev pub begins_section : List ℕ → Bool
begins_section word = is_read word || bytes_eq word (codes "global") || bytes_eq word (codes "defaults")

-- the word that began the section of the next line: this one, or the one before
abbrev pub heading_behind : List ℕ → List ℕ → List ℕ
heading_behind heading word = if begins_section word then word else heading

-- ---- sections that aren't served

-- a line that has a meaning in a section that is served alone
abbrev pub is_front_line : List ℕ → Bool
is_front_line word = bytes_eq word (codes "bind") || bytes_eq word (codes "tcp-request")

-- whether there is such a line up to the next section
abbrev pub has_front_line : List (List ℕ) → Bool
has_front_line [] = false
has_front_line (line ∷ lines) = if begins_section (keyword line) then false else if is_front_line (keyword line) then true else has_front_line lines

-- ---- rules and tables in defaults

abbrev pub is_lost_in_defaults : List ℕ → List ℕ → Bool
is_lost_in_defaults heading word = bytes_eq heading (codes "defaults") && (bytes_eq word (codes "tcp-request") || bytes_eq word (codes "stick-table"))

-- ---- ACLs

abbrev pub begins_condition : List ℕ → Bool
begins_condition word = bytes_eq word (codes "if") || bytes_eq word (codes "unless")

-- the words behind if or unless
abbrev pub condition_in : List (List ℕ) → List (List ℕ)
condition_in [] = []
condition_in (word ∷ words) = if begins_condition word then words else condition_in words

-- a word without the ! in front, where it has one
abbrev pub bare : List ℕ → List ℕ
bare word = if is_negated word then drop 1 word else word

-- whether words name an ACL: one of them does that isn't in braces
abbrev pub names : List ℕ → Bool → List (List ℕ) → Bool
names name braced [] = false
names name true (word ∷ words) = names name (not (is_closing word)) words
names name false (word ∷ words) = if bytes_eq (bare word) name then true else names name (is_opening (bare word)) words

-- whether a line is a rule whose condition names an ACL
abbrev pub uses : List ℕ → List ℕ → Bool
uses name line = bytes_eq (keyword line) (codes "tcp-request") && names name false (condition_in (other_words (words_of line)))

-- whether a line up to the next section does so
abbrev pub is_used : List ℕ → List (List ℕ) → Bool
is_used name [] = false
is_used name (line ∷ lines) = if begins_section (keyword line) then false else if uses name line then true else is_used name lines

-- a line that declares an ACL which nothing behind it uses
abbrev pub is_unused_acl : List ℕ → List ℕ → List (List ℕ) → Bool
is_unused_acl heading line behind = is_read heading && bytes_eq (keyword line) (codes "acl") && not (is_used (first_word (other_words (words_of line))) behind)

-- ---- all

-- of a line of this number in a section that began so, with the lines behind it; `served` says whether a section that is served
-- began above
abbrev pub line_warning : List ℕ → Bool → ℕ → List ℕ → List (List ℕ) → Option Warning
line_warning heading served number line behind =
    if is_front (keyword line) then (if served && has_front_line behind then Some (Unserved number) else None)
    else if is_lost_in_defaults heading (keyword line) then Some (InDefaults number)
    else if is_unused_acl heading line behind then Some (UnusedAcl number)
    else None

-- of lines behind so many others, in order
abbrev pub line_warnings : List ℕ → Bool → ℕ → List (List ℕ) → List Warning
line_warnings heading served others [] = []
line_warnings heading served others (line ∷ lines) =
    listed (line_warning heading served (others + 1) line lines)
    ++ line_warnings (heading_behind heading (keyword line)) (served || is_front (keyword line)) (others + 1) lines

-- of a text that has no fault
unfoldable pub file_warnings : List ℕ → List Warning
file_warnings text = line_warnings [] false 0 (lines_of text)
