pub mod Pictured
pub mod Put
pub mod OfList
pub mod Sources
pub mod Restored
pub mod Restoring
pub mod Resuming
pub mod SameCode
