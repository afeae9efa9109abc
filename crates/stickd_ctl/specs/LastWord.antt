-- What a program that stops says last to who waits for its end.
use Rattle.std.specs.Prelude.{◌≡◌, ℕ, Option, Some, None, List, codes, if◌then◌else◌, refl}
use Rattle.std.specs.Str.{bytes_eq}
use Rattle.stickd_ctl.specs.declared.last_word.LastWord.{LastWord}
use Rattle.stickd_ctl.specs.declared.last_word.LastWord.TheVariants.{Stopped, Unsaved}

abbrev pub word_text : LastWord → List ℕ
word_text Stopped = codes "Stopped.\n"
word_text Unsaved = codes "Stopped, but not saved.\n"

-- the word that an answer is
abbrev pub word_of : List ℕ → Option LastWord
word_of answer = if bytes_eq answer (word_text Stopped) then Some Stopped else if bytes_eq answer (word_text Unsaved) then Some Unsaved else None

-- whoever waits reads what is said
pub heard : (word : LastWord) → word_of (word_text word) ≡ Some word
heard Stopped = refl
heard Unsaved = refl
