pub mod CommonLemmas
pub mod HearLemmas
pub mod AskLemmas
pub mod VisitLemmas
