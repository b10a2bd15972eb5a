pub mod HandleBits
pub mod Moves
pub mod Pushes
pub mod Rules
pub mod Tables
pub mod Updates
pub mod Values
