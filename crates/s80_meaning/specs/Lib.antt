pub mod Tree
pub mod Meaning
pub mod Worked
pub mod Places
pub mod Image
pub mod Agreement
pub mod Renamed
