pub mod SpecialLemmas
pub mod SpellingLemmas
pub mod TableLemmas
