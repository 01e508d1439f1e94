pub mod Byte
pub mod Causes
pub mod Literal
pub mod Memory
pub mod SameLiteral
