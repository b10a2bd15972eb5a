pub mod LaneCalls
pub mod LaneLaws
