pub mod BlockLaws
pub mod TextOf
