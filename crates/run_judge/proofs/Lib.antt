pub mod SameReplies
pub mod AgreeingSteps
pub mod Judged
