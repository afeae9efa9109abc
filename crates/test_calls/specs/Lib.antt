pub mod Planned
pub mod Crowds
