pub mod Order
pub mod Touched
pub mod Merging
pub mod Work
