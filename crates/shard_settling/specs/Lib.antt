pub mod Order
pub mod Settled
pub mod Faults
pub mod Laws
