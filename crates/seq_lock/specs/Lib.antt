pub mod Holds
pub mod Once
pub mod Glances
