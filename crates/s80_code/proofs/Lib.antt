pub mod lemmas
pub mod LineLemmas
