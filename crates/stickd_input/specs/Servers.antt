-- The name that a configuration gives the server.
use Rattle.std.specs.Prelude.{ℕ, Bool, false, ◌&&◌, ◌||◌, Option, Some, None, List, [], ◌∷◌, codes, unwrap_or, if◌then◌else◌}
use Rattle.std.specs.Option.{option_and_then, option_or}
use Rattle.std.specs.Str.{bytes_eq}
use Rattle.rule_model.specs.declared.sections.Section.{Section}
use Rattle.rule_words.specs.Lines.{first_word, other_words, words_of}

-- frontend, backend and listen begin a section of a name
abbrev pub begins_section : List ℕ → Bool
begins_section keyword = bytes_eq keyword (codes "frontend") || bytes_eq keyword (codes "backend") || bytes_eq keyword (codes "listen")

-- global and defaults end one
abbrev pub ends_section : List ℕ → Bool
ends_section keyword = bytes_eq keyword (codes "global") || bytes_eq keyword (codes "defaults")

-- whether a line stands in the section of a name, by its first two words, and whether the line above does
abbrev pub is_in_section : Bool → List ℕ → List ℕ → List ℕ → Bool
is_in_section is_above keyword name section =
    if begins_section keyword then bytes_eq name section
    else (if ends_section keyword then false
    else is_above)

-- the second word of a line
abbrev pub second_word : List (List ℕ) → List ℕ
second_word words = first_word (other_words words)

-- the name on the first line server of a section, and whether the line above stands in it
abbrev pub server_in : List ℕ → Bool → List (List ℕ) → Option (List ℕ)
server_in section is_above [] = None
server_in section is_above (line ∷ lines) =
    if is_in_section is_above (first_word (words_of line)) (second_word (words_of line)) section && bytes_eq (first_word (words_of line)) (codes "server")
    then Some (second_word (words_of line))
    else server_in section (is_in_section is_above (first_word (words_of line)) (second_word (words_of line)) section) lines

-- the name on a section's own line, or on that of its default backend
abbrev pub served_name : Section → List (List ℕ) → Option (List ℕ)
served_name proxy lines = option_or (server_in proxy.name false lines) (option_and_then (λ backend. server_in backend false lines) proxy.default_backend)

-- that of the section that is served, and no letters where there is none
abbrev pub server_name_of : Option Section → List (List ℕ) → List ℕ
server_name_of None lines = []
server_name_of (Some proxy) lines = unwrap_or (served_name proxy lines) []
