pub mod lemmas
pub mod Words
pub mod Left
pub mod Building
pub mod Homes
