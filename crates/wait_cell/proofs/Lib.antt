pub mod Replies
pub mod Waiting
pub mod Taking
pub mod Counting
