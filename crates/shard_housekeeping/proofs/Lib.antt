pub mod ExpiringLemmas
pub mod KeepingLemmas
