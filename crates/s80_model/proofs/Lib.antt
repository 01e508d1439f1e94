pub mod lemmas
pub mod Asking
mod Opening
mod Naming
pub mod Telling
pub mod Categories
pub mod Listed
pub mod Seeking
pub mod Fitting
