pub mod Tables
pub mod Calls
pub mod Moves
pub mod Lived
pub mod DriveCode
pub mod Balance
pub mod Unrefused
pub mod Laws
