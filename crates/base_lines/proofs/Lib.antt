pub mod PartLemmas
pub mod WordLemmas
pub mod LineLemmas
pub mod NumberLemmas
pub mod ChainLemmas
pub mod ServiceLemmas
