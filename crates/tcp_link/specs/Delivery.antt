-- What a connection that ends owes nobody any more.
use Rattle.std.specs.Prelude.{◌≡◌, ◌⊎◌, ◌||◌, ℕ, Option, Bool, true, false, []}
use Rattle.tcp_flow.specs.declared.steps.Step.{Step}
use Rattle.tcp_link.specs.Closing.{closing, reader_failed, writer_failed}
use Rattle.tcp_link.specs.Links.{LinkState, is_broken, is_finished, is_reset_due, must_be_accepted, owes_reset}
use Rattle.tcp_link.specs.Silence.{is_quiet}
use Rattle.tcp_link.specs.Ways.{IsWay}
use Rattle.tcp_link.specs.declared.closing.Closing.{Closing}
use Rattle.tcp_link.specs.declared.way.Way.{Way}

-- all that was taken of a direction's sender was given to its receiver, or that one has failed
abbrev pub IsDelivered : Way → Type 0
IsDelivered way = ((way.direction.passage.written ≡ way.direction.passage.read) × (way.direction.passage.rest ≡ [])) ⊎ (writer_failed way.step ≡ true)

-- whether a side has failed, by the direction from it and the one to it
abbrev pub side_failed : Step → Step → Bool
side_failed from to = reader_failed from || writer_failed to

-- how it is closed
abbrev pub closing_of : LinkState → Closing
closing_of link = closing link.there.step link.back.step (must_be_accepted link)

-- of each side all that was taken was given to the other, or that one has failed; and only a side that has failed is reset
pub record DropsNothing (link : LinkState) : Type 0 where
  pub there : IsDelivered link.there
  pub back : IsDelivered link.back
  pub client : (closing_of link).resets_client ≡ true → side_failed link.there.step link.back.step ≡ true
  pub server : (closing_of link).resets_server ≡ true → side_failed link.back.step link.there.step ≡ true

-- a connection through which nothing more passes drops nothing as it ends. What ends it else is a timeout, a drain, or what `is_broken` names
abbrev pub DeliveryLaw : Type 0
DeliveryLaw = (link : LinkState) → IsWay link.there → IsWay link.back → is_broken link ≡ false → is_finished link ≡ true → DropsNothing link

-- a side that hasn't failed is reset only once all that was taken of the other, which failed before it told its end, was given to it; and, but at a timeout, a drain's end or what `is_broken` names, only once nothing was written to it for a second
pub record IsGivenAll (way : Way) (wrote : Option ℕ) (moment : ℕ) : Type 0 where
  pub delivered : IsDelivered way
  pub quiet : is_quiet wrote moment ≡ true

abbrev pub ResetLaw : Type 0
ResetLaw = (link : LinkState) (moment : ℕ) → IsWay link.there → IsWay link.back → is_reset_due link moment ≡ true
    → (owes_reset link.back.step link.there.step ≡ true → IsGivenAll link.back link.client_wrote moment) × (owes_reset link.there.step link.back.step ≡ true → IsGivenAll link.there link.server_wrote moment)
