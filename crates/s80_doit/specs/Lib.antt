pub mod DoIt
pub mod Answer
