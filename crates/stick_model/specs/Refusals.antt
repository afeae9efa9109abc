-- When an event is refused.
use Rattle.std.specs.Prelude.{◌≡◌, ℕ, ◌+◌, nat_eq, nat_le, Bool, true, false, ◌||◌, length}
use Rattle.stick_model.specs.State.{State}
use Rattle.stick_model.specs.Step.{is_out}
use Rattle.stick_model.specs.declared.events.Event.{Event}
use Rattle.stick_model.specs.declared.events.Event.TheVariants.{Get, Track, Look, Release, Put, List as ListRows}
use Rattle.stick_model.specs.declared.replies.Refusal.{Refusal}
use Rattle.stick_model.specs.declared.replies.Refusal.TheVariants.{Stale, Exhausted, Memory, Behind}

-- the numbers of the table's life that an event takes: its own, and for a reference that of its release, which needs no more
abbrev pub life_taken : Event → ℕ
life_taken (Track now key) = 2
life_taken (Release now ticket) = 0
life_taken _ = 1

abbrev pub has_life : State → Event → Bool
has_life state event = nat_eq (life_taken event) 0 || nat_le (state.events + length state.tickets + life_taken event) state.spec.life

-- whether the answer to an event, or what is kept of it, may need a growth
abbrev pub takes_memory : Event → Bool
takes_memory (Get now key) = true
takes_memory (Track now key) = true
takes_memory (Look now ticket) = true
takes_memory (Put now key pairs) = true
takes_memory (ListRows now choice) = true
takes_memory _ = false

-- why an event may be refused: its ticket isn't out; else the life ends; else a growth was refused
abbrev pub IsRefused : State → Event → Refusal → Type 0
IsRefused state event Stale = is_out state event ≡ false
IsRefused state event Exhausted = (is_out state event ≡ true) × (has_life state event ≡ false)
IsRefused state event Memory = (is_out state event ≡ true) × (has_life state event ≡ true) × (takes_memory event ≡ true)
IsRefused state event (Behind count front) = ⊥
