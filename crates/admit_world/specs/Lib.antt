pub mod World
pub mod WorldCode
pub mod Balance
pub mod Limit
pub mod Shown
pub mod Schedules
pub mod Alike
