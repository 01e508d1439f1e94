pub mod JumpLemmas
pub mod LawLemmas
pub mod ListLemmas
pub mod PlaceLemmas
