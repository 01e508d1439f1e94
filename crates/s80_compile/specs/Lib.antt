pub mod Rows
pub mod Compiles
pub mod Sent
pub mod Emitted
pub mod Same
pub mod Header
