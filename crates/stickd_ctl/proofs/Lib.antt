pub mod StringLemmas
pub mod SavingLemmas
mod WindowLemmas
