-- What a turn keeps of a direction.
use Rattle.std.proofs.Common.{sym, ap, ◌∙◌, ◌≡◌, ◌+◌, ℕ, false, List, [], length, arith, length-append}
use Rattle.tcp_flow.specs.Passage.{HasMoved, Passage, with_rest}
use Rattle.tcp_flow.specs.Turns.{HasTurned, Leaves, is_last}
use Rattle.tcp_flow.specs.declared.steps.Cause.TheVariants.{Memory, Read, Write}
use Rattle.tcp_flow.specs.declared.steps.Step.{Step}
use Rattle.tcp_flow.specs.declared.steps.Step.TheVariants.{Ended, Failed, WaitsToRead, WaitsToWrite, Yields}
use Rattle.tcp_link.specs.Ways.{Accounts, IsWay}
use Rattle.tcp_link.specs.declared.way.Way.{Way}

-- what was read is what was written and what wasn't
sum_of_move : (old new : Passage) (unwritten : List ℕ) → old.written + length old.rest ≡ old.read
    → HasMoved ⊥ [] [] ⊥ [] [] old (with_rest new unwritten) → new.written + length unwritten ≡ new.read
sum_of_move old new unwritten sum moved =
    let lengths : length old.rest + length moved.bytes ≡ length moved.piece + length unwritten =
    sym (length-append old.rest moved.bytes) ∙ ap length moved.order ∙ length-append moved.piece unwritten in
    omega (arith, sum, lengths, moved.read, moved.written)

-- what waits, and that it is all that wasn't written, unless the turn was the last
pub accounts_behind_turn : (old new : Passage) (step : Step) → old.written + length old.rest ≡ old.read
    → HasTurned ⊥ [] [] ⊥ [] [] old new step → Accounts new step
accounts_behind_turn old new step sum turned = behind step turned.leaves (sum_of_move old new turned.unwritten sum turned.moved)
  where
    none : (unwritten : List ℕ) → unwritten ≡ [] → new.written + length unwritten ≡ new.read → new.written ≡ new.read
    none unwritten is sum = omega (arith, sum, ap length is)

    behind : (step : Step) → Leaves step turned.unwritten new.rest → new.written + length turned.unwritten ≡ new.read → Accounts new step
    behind WaitsToRead leaves sum = (none turned.unwritten leaves.0 sum, leaves.1)
    behind WaitsToWrite leaves sum = omega (arith, sum, ap length leaves.1)
    behind Yields leaves sum = (none turned.unwritten leaves.0 sum, leaves.1)
    behind Ended leaves sum = (none turned.unwritten leaves.0 sum, leaves.1)
    behind (Failed Read) leaves sum = (none turned.unwritten leaves.0 sum, leaves.1)
    behind (Failed Write) leaves sum = leaves.1
    behind (Failed Memory) leaves sum = leaves.1

-- what was read until a direction is over
sum_of : (passage : Passage) (step : Step) → Accounts passage step → is_last step ≡ false → passage.written + length passage.rest ≡ passage.read
sum_of passage WaitsToRead accounts going = omega (arith, accounts.0, ap length accounts.1)
sum_of passage WaitsToWrite accounts going = accounts
sum_of passage Yields accounts going = omega (arith, accounts.0, ap length accounts.1)
sum_of passage Ended accounts going = cc
sum_of passage (Failed cause) accounts going = cc

-- a direction behind a turn
pub way_behind_turn : (old new : Way) → IsWay old → old.direction.over ≡ false
    → HasTurned ⊥ [] [] ⊥ [] [] old.direction.passage new.direction.passage new.step → new.direction.over ≡ is_last new.step → IsWay new
way_behind_turn old new way going turned over = record {
  accounts = accounts_behind_turn old.direction.passage new.direction.passage new.step (sum_of old.direction.passage old.step way.accounts (sym way.over ∙ going)) turned;
  over = over;
}
