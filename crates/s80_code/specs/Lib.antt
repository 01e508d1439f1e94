pub mod ByWidth
pub mod Entries
pub mod Listing
pub mod Special
pub mod Spelling
pub mod Table
