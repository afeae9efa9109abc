pub mod Actions
pub mod Statements
pub mod Lines
pub mod Config
pub mod Laws
pub mod Examples
pub mod Text
pub mod LimitExamples
