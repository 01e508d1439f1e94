pub mod Places
pub mod Shown
pub mod SlotLemmas
pub mod Sorting
