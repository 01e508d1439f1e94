mod Evaluated
mod OneHouse
mod Fitting
mod Setting
mod Ran
pub mod Fields
pub mod Behind
pub mod Naming
pub mod Targets
pub mod Meanings
pub mod Patterns
pub mod Suiting
