pub mod Drift
pub mod Code
