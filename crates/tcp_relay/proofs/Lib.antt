mod LeavingLemmas
pub mod ConnectionLemmas
pub mod SeatingLemmas
pub mod ServingLemmas
mod LookLemmas
mod ShareLemmas
mod DrainLemmas
mod BalanceLemmas
mod PassedCalls
mod PassedTold
mod PassedLooks
mod PassedHeld
mod PassedSeats
mod PassedHeard
mod PassedGoes
mod PassedStays
mod PassedPlaces
mod PassedOf
mod UntrackedGoes
mod MomentGoes
mod ReleasingCalls
mod ReleasingMoves
mod ReleasingGoes
mod EndingGoes
mod AcrossLemmas
