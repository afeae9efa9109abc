pub mod Attempts
pub mod Marks
pub mod Patience
pub mod Ways
