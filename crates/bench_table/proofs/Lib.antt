pub mod OrderLemmas
pub mod IndexLemmas
