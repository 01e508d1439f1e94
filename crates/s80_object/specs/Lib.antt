pub mod Body
pub mod Objects
pub mod Literal
pub mod Seen
pub mod Steps
