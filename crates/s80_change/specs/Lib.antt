pub mod Check
pub mod Source
pub mod HeadForm
pub mod Head
pub mod HeadParts
pub mod Block
pub mod Blocks
pub mod Fronts
