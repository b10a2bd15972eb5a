pub mod SearchLemmas
pub mod ReachLemmas
pub mod CountLemmas
