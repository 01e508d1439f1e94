pub mod Effect
pub mod Fault
pub mod Found
pub mod Header
pub mod Operands
pub mod Reach
pub mod Record
