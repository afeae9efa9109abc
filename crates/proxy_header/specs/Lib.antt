pub mod Binary
pub mod Header
pub mod Laws
pub mod Line
pub mod Vectors
pub mod Written
