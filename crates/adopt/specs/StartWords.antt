-- The command line of a start that takes a file of HAProxy: options that stand for lines of the file, unless the operator gives them.
use Rattle.std.specs.Prelude.{ℕ, Bool, true, false, ◌==◌, ◌&&◌, ◌||◌, Option, Some, None, List, [], ◌∷◌, ◌++◌, length, take, drop, map, nat_le, flat_map, codes, if◌then◌else◌}
use Rattle.std.specs.List.{list_any}
use Rattle.std.specs.Str.{bytes_eq}
use Rattle.std.specs.String.{string_bytes}
use Rattle.std.specs.declared.string.String.{String}
use Rattle.std.specs.declared.vec.Vec.{Vec}
use Rattle.std.specs.declared.alloc.Global.{Global}
use Rattle.adopt.specs.declared.options.CommandOption.{CommandOption}

-- whether what stands after an option's name is nothing, or its value after '='
abbrev pub ends_name : List ℕ → Bool
ends_name [] = true
ends_name (byte ∷ bytes) = byte == 61

-- whether a word names an option: it is the option, or the option with its value
abbrev pub names : List ℕ → List ℕ → Bool
names option word = nat_le (length option) (length word) && (bytes_eq (take (length option) word) option && ends_name (drop (length option) word))

-- whether a command line gives an option
abbrev pub gives : List (String Global) → List ℕ → Bool
gives words option = list_any (λ word. names option (string_bytes word)) words

-- the option that says the same in another way: a server is told of its clients by one version alone
abbrev pub rival_of : List ℕ → List ℕ
rival_of option =
    if bytes_eq option (codes "--send-proxy") then codes "--send-proxy-v2"
    else if bytes_eq option (codes "--send-proxy-v2") then codes "--send-proxy"
    else option

-- whether a command line gives an option, or the one that says the same in another way
abbrev pub overrules : List (String Global) → List ℕ → Bool
overrules words option = gives words option || gives words (rival_of option)

-- the word that follows an option, if one does
abbrev pub value_words : Option (Vec ℕ Global) → List (List ℕ)
value_words None = []
value_words (Some value) = value.items ∷ []

-- the words of an option that a command line doesn't overrule
abbrev pub words_for : List (String Global) → CommandOption → List (List ℕ)
words_for words option = if overrules words option.flag.now then [] else option.flag.now ∷ value_words option.value

abbrev pub texts : List (String Global) → List (List ℕ)
texts words = map string_bytes words

-- the program and its command, the options that it doesn't overrule, and the words that follow
abbrev pub with_options : List (String Global) → List CommandOption → List (List ℕ)
with_options words options = texts (take 2 words) ++ flat_map (words_for words) options ++ texts (drop 2 words)

-- options as a command line shows them
abbrev pub shown : List CommandOption → List (List ℕ × List (List ℕ))
shown options = map (λ (option : CommandOption). (option.flag.now, value_words option.value)) options

abbrev pub has_flag : List (List ℕ × List (List ℕ)) → List ℕ → Bool
has_flag options flag = list_any (λ (option : List ℕ × List (List ℕ)). bytes_eq option.0 flag) options

abbrev pub has : List CommandOption → List ℕ → Bool
has options flag = has_flag (shown options) flag

-- with one more, unless it is there
abbrev pub with_unless : List (List ℕ × List (List ℕ)) → List ℕ → List ℕ → List (List ℕ × List (List ℕ))
with_unless options flag value = if has_flag options flag then options else options ++ (flag, value ∷ []) ∷ []

-- with those without which the program doesn't run
abbrev pub with_usual : List (List ℕ × List (List ℕ)) → List (List ℕ × List (List ℕ))
with_usual options = with_unless (with_unless options (codes "--socket") (codes "/run/stickd/stickd.sock")) (codes "--threads") (codes "1")
