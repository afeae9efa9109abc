pub mod Faults
pub mod Haproxy
pub mod Nearest
pub mod Servers
pub mod Networks
