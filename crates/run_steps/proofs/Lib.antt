pub mod Lists
pub mod ChangedSince
pub mod NextEntries
pub mod Cells
pub mod CellSteps
pub mod Choices
pub mod Reaching
pub mod MachineFacts
