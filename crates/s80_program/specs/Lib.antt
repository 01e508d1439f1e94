pub mod Command
pub mod Words
pub mod Task
pub mod Ending
pub mod Leaves
pub mod Job
