-- What is counted, and in which order.
use Rattle.std.specs.Prelude.{ℕ, List, [], ◌∷◌}
use Rattle.tcp_stats.specs.declared.count.Count.{Count}
use Rattle.tcp_stats.specs.declared.count.Count.TheVariants.{Accepted, Admitted, Rejected, NoDescriptors, NoMemory, Unaccepted, Headers, HeaderLate, HeaderWrong, HeaderEnded, HeaderUntrusted, ServerRefused, ServerTimedOut, NoPort, ServerFailed, ClientTimedOut, ServerSilent, FinTimedOut, Drained, Ended, BytesIn, BytesOut, UntrackedFull, UntrackedNoReferences, EventsNoMemory, EventsStale, EventsExhausted, Commands, Reloads, ReloadsRefused, Rolls, Expiries, Refusals}

-- all that is counted, in the order in which a worker publishes it
abbrev pub all_counts : List Count
all_counts =
    Accepted ∷ Admitted ∷ Rejected ∷ NoDescriptors ∷ NoMemory ∷ Unaccepted
    ∷ Headers ∷ HeaderLate ∷ HeaderWrong ∷ HeaderEnded ∷ HeaderUntrusted
    ∷ ServerRefused ∷ ServerTimedOut ∷ NoPort ∷ ServerFailed ∷ ClientTimedOut ∷ ServerSilent ∷ FinTimedOut
    ∷ Drained ∷ Ended ∷ BytesIn ∷ BytesOut
    ∷ UntrackedFull ∷ UntrackedNoReferences ∷ EventsNoMemory ∷ EventsStale ∷ EventsExhausted
    ∷ Commands ∷ Reloads ∷ ReloadsRefused ∷ Rolls ∷ Expiries ∷ Refusals ∷ []

-- the place of a count in that order, from 0
abbrev pub place : Count → ℕ
place Accepted = 0
place Admitted = 1
place Rejected = 2
place NoDescriptors = 3
place NoMemory = 4
place Unaccepted = 5
place Headers = 6
place HeaderLate = 7
place HeaderWrong = 8
place HeaderEnded = 9
place HeaderUntrusted = 10
place ServerRefused = 11
place ServerTimedOut = 12
place NoPort = 13
place ServerFailed = 14
place ClientTimedOut = 15
place ServerSilent = 16
place FinTimedOut = 17
place Drained = 18
place Ended = 19
place BytesIn = 20
place BytesOut = 21
place UntrackedFull = 22
place UntrackedNoReferences = 23
place EventsNoMemory = 24
place EventsStale = 25
place EventsExhausted = 26
place Commands = 27
place Reloads = 28
place ReloadsRefused = 29
place Rolls = 30
place Expiries = 31
place Refusals = 32
