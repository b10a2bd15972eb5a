pub mod Reached
pub mod Keeping
