pub mod Log
pub mod Standing
pub mod Commit
pub mod Faults
