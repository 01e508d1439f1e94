pub mod lemmas
pub mod BlockLemmas
pub mod FoundLemmas
pub mod HeaderLemmas
pub mod PlacesLemmas
