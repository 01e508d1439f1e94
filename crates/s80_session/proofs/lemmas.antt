pub mod Amid
pub mod Elsewhere
pub mod Grounds
pub mod Groups
pub mod Keeping
pub mod Lasting
