pub mod FaultLemmas
pub mod ListLemmas
pub mod TicketLemmas
pub mod ReplayLemmas
pub mod ToldLemmas
pub mod PassedLemmas
pub mod LawLemmas
pub mod SeatsLemmas
