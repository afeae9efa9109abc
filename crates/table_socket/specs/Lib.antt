pub mod Clients
pub mod Groups
pub mod Mode
