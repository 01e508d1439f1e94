pub mod Found
pub mod Links
pub mod Named
pub mod Places
pub mod Undeclared
