-- What becomes of a client that is to begin by a header, by the bytes that it has sent.
use Rattle.std.specs.Prelude.{◌≡◌, ℕ, ◌-◌, nat_le, Bool, if◌then◌else◌, List, Option}
use Rattle.proxy_header.specs.Header.{heard}
use Rattle.proxy_header.specs.declared.ends.Ends.{Ends}
use Rattle.proxy_header.specs.declared.ends.Heard.{Heard}
use Rattle.proxy_header.specs.declared.ends.Heard.TheVariants as heards
use Rattle.tcp_stats.specs.declared.count.Count.{Count}
use Rattle.tcp_stats.specs.declared.count.Count.TheVariants as counts
use Rattle.tcp_relay.specs.declared.hearing.HeaderFault.{HeaderFault}
use Rattle.tcp_relay.specs.declared.hearing.HeaderFault.TheVariants.{Late, Wrong, Ended, Untrusted}
use Rattle.tcp_relay.specs.declared.hearing.Hearing.{Hearing}
use Rattle.tcp_relay.specs.declared.hearing.Hearing.TheVariants.{WaitOn, Told, Failed}

-- it is judged by a header of that length, which tells these ends
abbrev pub IsToldAs : ℕ → Option Ends → Hearing → Type 0
IsToldAs length ends (Told header) = (header.length ≡ length) × (header.ends ≡ ends)
IsToldAs length ends hearing = ⊥

-- a header that isn't whole is waited for, unless the client sends no more; any other bytes are wrong; a whole one is taken
abbrev pub Becomes : Bool → Heard → Hearing → Type 0
Becomes is_closed heards.Unfinished hearing = hearing ≡ (if is_closed then Failed Ended else WaitOn)
Becomes is_closed heards.Wrong hearing = hearing ≡ Failed Wrong
Becomes is_closed (heards.Told length ends) hearing = IsToldAs length ends hearing

-- what is counted of a client that is reset unjudged, beside that it is rejected
abbrev pub fault_count : HeaderFault → Count
fault_count Late = counts.HeaderLate
fault_count Wrong = counts.HeaderWrong
fault_count Ended = counts.HeaderEnded
fault_count Untrusted = counts.HeaderUntrusted

-- some bytes of the client were there, and it sends no more, or may: by them it goes on so
abbrev pub IsHeard : Hearing → Type 0
IsHeard hearing = ∥ ((is_closed : Bool) × (bytes : List ℕ) × Becomes is_closed (heard bytes) hearing) ∥₁

-- whether a header that is waited for since a moment is late at another, all in ms
abbrev pub is_late : ℕ → ℕ → ℕ → Bool
is_late timeout since moment = nat_le timeout (moment - since)
