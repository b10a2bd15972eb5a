pub mod Families
pub mod Fixed
pub mod Tallies
pub mod Totals
pub mod Laws
