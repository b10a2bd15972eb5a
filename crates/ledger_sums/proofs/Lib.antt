pub mod Commuting
pub mod ExactSums
pub mod LastValues
pub mod Members
pub mod Mixes
pub mod Rearranged
pub mod Tallying
