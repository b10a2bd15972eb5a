pub mod LookSteps
pub mod CallPaths
pub mod OncePaths
pub mod ItemCounts
