pub mod LineLemmas
pub mod NumberLemmas
pub mod TableLemmas
pub mod BraceLemmas
pub mod SentenceLemmas
pub mod ConditionLemmas
