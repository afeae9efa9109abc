pub mod Status
pub mod Written
pub mod Checked
pub mod Lines
pub mod Keywords
pub mod Report
pub mod StartWords
