pub mod Target
pub mod Fields
pub mod Reading
pub mod Text
pub mod Spelling
pub mod Laws
