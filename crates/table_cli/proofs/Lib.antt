pub mod ShardLemmas
pub mod TableLemmas
pub mod ClockLemmas
pub mod LineLemmas
pub mod OldestLemmas
pub mod MatchingLemmas
pub mod FilterLemmas
pub mod ClearingLemmas
