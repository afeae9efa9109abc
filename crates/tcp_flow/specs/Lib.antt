pub mod Carried
pub mod FlowState
pub mod Halts
pub mod Passage
pub mod Turns
