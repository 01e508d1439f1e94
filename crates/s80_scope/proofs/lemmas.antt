pub mod Places
pub mod Apart
pub mod Opens
pub mod Endings
pub mod Counted
