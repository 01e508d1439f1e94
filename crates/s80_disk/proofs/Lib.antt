pub mod lemmas
pub mod Steps
pub mod Pushed
pub mod Mixed
pub mod Held
pub mod Spread
