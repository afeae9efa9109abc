-- The moments of lines.
use Rattle.std.proofs.Common.{◌≡◌, ℕ, ◌<◌, ◌^◌, refl, arith, Bool, true, false, cond, nat_lt, Option, Some, None, List, [], ◌∷◌, codes}
use Rattle.std.specs.Option.{option_map_or}
use Rattle.std.specs.Str.{bytes_eq}
use Rattle.base_lines.specs.Number.{number_of}
use Rattle.base_lines.specs.Words.{after_word, words_left}
use Rattle.stick_model.proofs.TestLemmas.{lt-from}
use Rattle.stickd_script.specs.Script.{Line, Empty, Bad, Commands, Open, Close, by_verb, by_words, close_of, closing, id_of, line_of, moment_of, open_of, opening, port_of, text_of}

-- the moment of a line is at most 2^62 - 1
abbrev pub IsInTime : Line → Type 0
IsInTime Empty = Unit {0}
IsInTime Bad = Unit {0}
IsInTime (Commands moment commands) = moment < 2 ^ 62
IsInTime (Open moment id address port) = moment < 2 ^ 62
IsInTime (Close moment id bytes_in bytes_out) = moment < 2 ^ 62

opens_in_time : (moment : ℕ) (id : Option ℕ) (address : List ℕ) (port : Option ℕ) → moment < 2 ^ 62 → IsInTime (opening moment id address port)
opens_in_time moment (Some id) address (Some port) timely = timely
opens_in_time moment (Some id) address None timely = tt
opens_in_time moment None address port timely = tt

closes_in_time : (moment : ℕ) (id bytes_in bytes_out : Option ℕ) → moment < 2 ^ 62 → IsInTime (closing moment id bytes_in bytes_out)
closes_in_time moment (Some id) (Some bytes_in) (Some bytes_out) timely = timely
closes_in_time moment (Some id) (Some bytes_in) None timely = tt
closes_in_time moment (Some id) None bytes_out timely = tt
closes_in_time moment None bytes_in bytes_out timely = tt

open_in_time : (moment : ℕ) (words : List (List ℕ)) → moment < 2 ^ 62 → IsInTime (open_of moment words)
open_in_time moment (id ∷ address ∷ port ∷ []) timely = opens_in_time moment (id_of id) address (port_of port) timely
open_in_time moment (id ∷ address ∷ port ∷ more ∷ rest) timely = tt
open_in_time moment (id ∷ address ∷ []) timely = tt
open_in_time moment (id ∷ []) timely = tt
open_in_time moment [] timely = tt

close_in_time : (moment : ℕ) (words : List (List ℕ)) → moment < 2 ^ 62 → IsInTime (close_of moment words)
close_in_time moment (id ∷ bytes_in ∷ bytes_out ∷ []) timely = closes_in_time moment (id_of id) (number_of bytes_in) (number_of bytes_out) timely
close_in_time moment (id ∷ bytes_in ∷ bytes_out ∷ more ∷ rest) timely = tt
close_in_time moment (id ∷ bytes_in ∷ []) timely = tt
close_in_time moment (id ∷ []) timely = tt
close_in_time moment [] timely = tt

verb_in_time : (cmd opens closes : Bool) (moment : ℕ) (more : List (List ℕ)) (commands : List ℕ) → moment < 2 ^ 62
    → IsInTime (cond cmd (Commands moment commands) (cond opens (open_of moment more) (cond closes (close_of moment more) Bad)))
verb_in_time true opens closes moment more commands timely = timely
verb_in_time false true closes moment more commands timely = open_in_time moment more timely
verb_in_time false false true moment more commands timely = close_in_time moment more timely
verb_in_time false false false moment more commands timely = tt

below_limit : (limit number : ℕ) (b : Bool) (moment : ℕ) → nat_lt number limit ≡ b → cond b (Some number) None ≡ Some moment → moment < limit
below_limit limit number true moment is at = let same : ◌≡◌ {A = ℕ} number moment = cc in omega (arith, same, lt-from number limit is)
below_limit limit number false moment is at = cc

number_in : (limit : ℕ) (o : Option ℕ) (moment : ℕ) → option_map_or (λ number. cond (nat_lt number limit) (Some number) None) o None ≡ Some moment → moment < limit
number_in limit None moment at = cc
number_in limit (Some number) moment at = below_limit limit number (nat_lt number limit) moment refl at

words_in_time : (moment : Option ℕ) (verb : List ℕ) (more : List (List ℕ)) (commands : List ℕ) → ((now : ℕ) → moment ≡ Some now → now < 2 ^ 62) → IsInTime (option_map_or (λ now. by_verb now verb more commands) moment Bad)
words_in_time None verb more commands timely = tt
words_in_time (Some now) verb more commands timely =
    verb_in_time (bytes_eq verb (codes "cmd")) (bytes_eq verb (codes "open")) (bytes_eq verb (codes "close")) now more commands (timely now refl)

by_words_in_time : (words : List (List ℕ)) (commands : List ℕ) → IsInTime (by_words words commands)
by_words_in_time [] commands = tt
by_words_in_time (moment ∷ []) commands = tt
by_words_in_time (moment ∷ verb ∷ more) commands = words_in_time (moment_of moment) verb more commands (λ now at. number_in (2 ^ 62) (number_of moment) now at)

pub line_in_time : (line : Option (List ℕ)) → IsInTime (line_of line)
line_in_time None = tt
line_in_time (Some []) = tt
line_in_time (Some (byte ∷ bytes)) = by_words_in_time (words_left (text_of (byte ∷ bytes))) (after_word (after_word (text_of (byte ∷ bytes)))).text
