pub mod Mark
pub mod Slots
pub mod Writes
pub mod Stays
pub mod Init
pub mod Commit
pub mod Found
