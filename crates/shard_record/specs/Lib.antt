pub mod Calls
pub mod Parts
pub mod Views
pub mod Laws
pub mod Telling
pub mod Dealing
