-- Who takes a client: what each worker shows the others, and what follows from it.
use Rattle.std.specs.Prelude.{◌≡◌, ◌≢◌, ◌≤◌, ◌<◌, ℕ, Bool, ◌+◌, ◌*◌, ◌/◌, ◌%◌, ◌-◌, ◌^◌, ◌==◌, ◌&&◌, not, min, nat_lt, Option, Some, None, List, [], ◌∷◌, length, slice_get, slice_set, true, false, if◌then◌else◌}
use Rattle.tcp_relay.specs.declared.balance.Candidate.{Candidate}

-- what a worker shows that is to be left no client
abbrev pub away : ℕ
away = 2 ^ 64 - 1

abbrev pub is_away : ℕ → Bool
is_away word = word == away

-- what a worker shows that has room and holds so many connections, up to 2^32 of them: twice as much, and one more while it is at work. So one that holds fewer shows less, and of two that hold as many the one that waits
abbrev pub shown : ℕ → Bool → ℕ
shown held waits = if waits then min held (2 ^ 32) * 2 else min held (2 ^ 32) * 2 + 1

-- one that shows this waits
abbrev pub is_waiting : ℕ → Bool
is_waiting word = word % 2 == 0

-- one that holds so many leaves a client to one that shows this: that has room, and holds fewer
abbrev pub leaves_to : ℕ → ℕ → Bool
leaves_to held word = not (is_away word) && nat_lt (word / 2) held

-- ---- who shows least

abbrev pub less_of : Candidate → Candidate → Candidate
less_of one other = if nat_lt other.word one.word then other else one

-- the least of one and of those of whom this is each one's word, in the places of their numbers from this one on
abbrev pub least_from : Candidate → ℕ → List ℕ → Candidate
least_from least place [] = least
least_from least place (word ∷ words) = least_from (less_of least (record { worker = place; word = word })) (place + 1) words

-- who shows least, the first of several that show as much
abbrev pub least_of : List ℕ → Candidate
least_of words = least_from (record { worker = 0; word = away }) 0 words

-- to whom one that holds so many leaves a client, by what the others show: to the one that has room and holds least, if it holds fewer
abbrev pub left_to : ℕ → List ℕ → Option ℕ
left_to held words = if leaves_to held (least_of words).word then Some (least_of words).worker else None

-- ---- what follows, of the words of all

-- what the others show: one isn't left a client by itself
abbrev pub others_of : ℕ → List ℕ → List ℕ
others_of worker words = slice_set words worker away

-- a worker of so many has no other beside it: it is the first, and there is no second
abbrev pub is_alone : ℕ → ℕ → Bool
is_alone worker workers = nat_lt workers 2 && worker == 0

-- one that is alone leaves a client to nobody, whatever is shown
abbrev pub AloneLaw : Type 0
AloneLaw = (worker held : ℕ) (words : List ℕ) → is_alone worker (length words) ≡ true → left_to held (others_of worker words) ≡ None

-- whoever is left a client takes it, and leaves it to nobody
abbrev pub TakenLaw : Type 0
TakenLaw = (worker held taker word own : ℕ) (words : List ℕ)
    → slice_get words worker ≡ Some own → own / 2 ≡ held
    → left_to held (others_of worker words) ≡ Some taker
    → slice_get words taker ≡ Some word
    → left_to (word / 2) (others_of taker words) ≡ None

-- of any two with room neither holds more than one more than the other
abbrev pub IsEven : List ℕ → Type 0
IsEven words = (one other a b : ℕ) → slice_get words one ≡ Some a → slice_get words other ≡ Some b → is_away a ≡ false → is_away b ≡ false → a / 2 ≤ b / 2 + 1

-- a worker that leaves a client to nobody takes it: what all hold stays even
abbrev pub EvenLaw : Type 0
EvenLaw = (worker held : ℕ) (waits : Bool) (words : List ℕ)
    → slice_get words worker ≡ Some (shown held waits) → held < 2 ^ 32
    → left_to held (others_of worker words) ≡ None
    → IsEven words
    → IsEven (slice_set words worker (shown (held + 1) false))
