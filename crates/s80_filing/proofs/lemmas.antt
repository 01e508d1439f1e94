pub mod SetKept
pub mod SetSteps
pub mod SetShort
