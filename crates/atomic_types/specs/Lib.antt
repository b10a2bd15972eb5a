pub mod Atomics
pub mod Serving
