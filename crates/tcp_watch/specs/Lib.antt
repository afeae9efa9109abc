pub mod Handed
pub mod Messages
pub mod Pending
pub mod Rhythms
pub mod Watchdog
pub mod Conversations
pub mod ProcessStats
pub mod Levels
