pub mod Invariant
pub mod Replies
pub mod Purging
pub mod References
pub mod TwoStates
