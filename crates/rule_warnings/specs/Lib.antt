pub mod Untracked
pub mod Limits
pub mod NoEffect
pub mod FileLines
pub mod Warnings
pub mod Laws
