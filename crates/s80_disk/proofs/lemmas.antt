pub mod Run
pub mod Showing
