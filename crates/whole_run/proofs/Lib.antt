pub mod Loading
pub mod Manning
pub mod RunFacts
pub mod Taking
pub mod Threads
pub mod Wholes
