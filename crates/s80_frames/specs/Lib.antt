pub mod Blocks
pub mod BlockLending
pub mod Frames
pub mod Lending
