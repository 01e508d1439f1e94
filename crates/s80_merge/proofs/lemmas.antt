pub mod Working
pub mod Planned
pub mod Merged
