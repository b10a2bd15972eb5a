pub mod Stages
pub mod WholeRuns
pub mod Ready
