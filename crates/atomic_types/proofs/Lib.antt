pub mod Replies
pub mod ServedCalls
