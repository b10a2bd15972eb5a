pub mod States
pub mod Ending
pub mod Collecting
