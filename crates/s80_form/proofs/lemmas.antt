pub mod Identifiers
pub mod Cuts
pub mod Building
pub mod Operands
pub mod Sendings
pub mod OneForm
pub mod FormTexts
