pub mod Addresses
pub mod Laws
pub mod Matching
pub mod Prefix
