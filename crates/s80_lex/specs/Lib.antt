pub mod Class
pub mod Front
pub mod Number
pub mod Selector
pub mod Spelling
pub mod Text
