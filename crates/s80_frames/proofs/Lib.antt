pub mod BlockSteps
pub mod BothThen
pub mod FrameLemmas
pub mod Runs
