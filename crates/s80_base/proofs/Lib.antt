pub mod lemmas
pub mod Sameness
pub mod Taken
