pub mod Sizes
pub mod Names
pub mod Cells
pub mod Calls
pub mod Regions
pub mod Laws
