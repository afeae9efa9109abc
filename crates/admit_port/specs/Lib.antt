pub mod Answers
pub mod Calls
pub mod Ports
pub mod Moves
pub mod DriveCode
pub mod Visit
