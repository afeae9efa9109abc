pub mod Changes
pub mod Versions
