pub mod lemmas
pub mod Splits
pub mod Spelled
pub mod Trees
pub mod Keywords
pub mod Shapes
pub mod Reading
pub mod Longest
