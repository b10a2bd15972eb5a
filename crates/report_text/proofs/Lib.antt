pub mod Walks
pub mod LineKinds
mod LineSteps
mod ManyLines
pub mod LastLoads
pub mod ManyValues
