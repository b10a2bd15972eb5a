pub mod Loads
pub mod Ends
