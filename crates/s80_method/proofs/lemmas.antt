pub mod Commented
