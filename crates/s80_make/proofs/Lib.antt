pub mod lemmas
pub mod One
