pub mod LanePieces
pub mod LaneSteps
