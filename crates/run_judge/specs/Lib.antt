pub mod Reports
pub mod Agreeing
pub mod Judging
pub mod Staying
