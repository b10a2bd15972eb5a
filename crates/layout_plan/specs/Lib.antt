pub mod Layout
pub mod Plans
pub mod Laws
