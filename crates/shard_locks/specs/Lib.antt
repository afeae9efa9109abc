pub mod ShardsState
pub mod Shared
pub mod Tracking
pub mod Listing
pub mod Holding
pub mod Ported
pub mod SeatCounting
