pub mod RequestLemmas
pub mod FilterLemmas
pub mod ComparisonLemmas
pub mod DottedLemmas
