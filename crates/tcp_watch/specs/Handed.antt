-- Sockets that a service manager hands over (sd_listen_fds(3)).
use Rattle.std.specs.Prelude.{ℕ, zero, suc, Bool, true, false, not, ◌||◌, ◌==◌, ◌+◌, Option, Some, None, List, [], ◌∷◌, codes, if◌then◌else◌}
use Rattle.std.specs.List.{find, list_any}
use Rattle.std.specs.Str.{bytes_eq}
use Rattle.base_lines.specs.Parts.{parts, is_byte}
use Rattle.base_lines.specs.Number.{number_of}
use Rattle.tcp_watch.specs.declared.handed.HandedSocket.{HandedSocket}
use Rattle.tcp_watch.specs.declared.handed.Purpose.{Purpose}
use Rattle.tcp_watch.specs.declared.handed.Purpose.TheVariants.{Clients, Commands, Stats}
use Rattle.tcp_watch.specs.declared.handed.Refusal.{Refusal}
use Rattle.tcp_watch.specs.declared.handed.Refusal.TheVariants.{NotTcp, NotUnix, NotListening, Second}
use Rattle.tcp_watch.specs.declared.handed.SocketFacts.{SocketFacts}

-- ---- which they are

-- without names they are unknown
abbrev pub names_told : Option (List ℕ) → List ℕ
names_told None = codes "unknown"
names_told (Some names) = names

-- names behind colons
abbrev pub names_of : List ℕ → List (List ℕ)
names_of text = parts (is_byte 58) text

-- a socket after the last name is unknown too
abbrev pub first_name : List (List ℕ) → List ℕ
first_name [] = codes "unknown"
first_name (name ∷ names) = name

abbrev pub other_names : List (List ℕ) → List (List ℕ)
other_names [] = []
other_names (name ∷ names) = names

-- so many sockets from this descriptor on, a name each
abbrev pub sockets_from : ℕ → List (List ℕ) → ℕ → List HandedSocket
sockets_from number names zero = []
sockets_from number names (suc count) =
    record { number = number; name = first_name names } ∷ sockets_from (number + 1) (other_names names) count

-- the first is 3
abbrev pub sockets_of : ℕ → Option (List ℕ) → List HandedSocket
sockets_of count names = sockets_from 3 (names_of (names_told names)) count

abbrev pub number_told : Option (List ℕ) → Option ℕ
number_told None = None
number_told (Some text) = number_of text

-- what isn't told as a number is none
abbrev pub number_or_none : Option ℕ → ℕ
number_or_none None = 0
number_or_none (Some number) = number

-- they are meant for the process that is named
abbrev pub count_for : Option ℕ → Option ℕ → ℕ → ℕ
count_for None count own = 0
count_for (Some process) count own = if process == own then number_or_none count else 0

-- how many are handed to the process of this number
abbrev pub count_of : Option (List ℕ) → Option (List ℕ) → ℕ → ℕ
count_of process count own = count_for (number_told process) (number_told count) own

-- ---- what each is for

-- one of any name but two is for clients
abbrev pub purpose_of : List ℕ → Purpose
purpose_of name = if bytes_eq name (codes "commands") then Commands else (if bytes_eq name (codes "stats") then Stats else Clients)

abbrev pub same_purpose : Purpose → Purpose → Bool
same_purpose Clients Clients = true
same_purpose Commands Commands = true
same_purpose Stats Stats = true
same_purpose one another = false

abbrev pub is_for : Purpose → HandedSocket → Bool
is_for purpose socket = same_purpose (purpose_of socket.name) purpose

-- the first of them that is for this
abbrev pub first_for : Purpose → List HandedSocket → Option HandedSocket
first_for purpose sockets = find (is_for purpose) sockets

-- whether one of them is for this
abbrev pub has : Purpose → List HandedSocket → Bool
has purpose sockets = list_any (is_for purpose) sockets

-- ---- which can be served

-- one that listens has clients that wait, or tells nothing; it never takes bytes and is never hung up
abbrev pub is_listening : SocketFacts → Bool
is_listening facts = (facts.events == 0) || (facts.events == 1)

-- clients come by TCP, and commands by a Unix socket
abbrev pub has_kind : Purpose → SocketFacts → Bool
has_kind Clients facts = facts.is_tcp
has_kind Commands facts = facts.is_unix
has_kind Stats facts = facts.is_unix

abbrev pub kind_wanted : Purpose → Refusal
kind_wanted Clients = NotTcp
kind_wanted Commands = NotUnix
kind_wanted Stats = NotUnix

-- all sockets for clients are served, and one of each other purpose
abbrev pub is_second : Purpose → List HandedSocket → Bool
is_second Clients before = false
is_second Commands before = has Commands before
is_second Stats before = has Stats before

-- why a socket after others can't be served, if it can't
abbrev pub refusal_of : List HandedSocket → Purpose → SocketFacts → Option Refusal
refusal_of before purpose facts =
    if is_second purpose before then Some Second
    else (if not (has_kind purpose facts) then Some (kind_wanted purpose)
    else (if is_listening facts then None
    else Some NotListening))
