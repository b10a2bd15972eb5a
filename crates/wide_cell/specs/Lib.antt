pub mod Looks
pub mod Once
pub mod Trials
