pub mod Counts
pub mod Trails
pub mod HeldParts
pub mod StoredParts
pub mod LockedCalls
pub mod LockedPaths
