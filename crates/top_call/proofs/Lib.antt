pub mod Readings
pub mod ManyRuns
pub mod Serving
pub mod Completing
pub mod Answering
pub mod TargetRows
pub mod Tries
mod WordLines
mod FormFacts
