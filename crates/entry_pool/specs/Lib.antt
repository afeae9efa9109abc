pub mod Blocks
pub mod Calls
pub mod Contents
pub mod Laws
pub mod Owned
pub mod PoolLends
pub mod Slots
