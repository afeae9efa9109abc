pub mod CarryLemmas
pub mod MoveLemmas
