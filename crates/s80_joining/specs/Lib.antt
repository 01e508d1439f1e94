pub mod Parts
pub mod Theirs
pub mod Outcome
pub mod Answer
pub mod Given
pub mod Base
