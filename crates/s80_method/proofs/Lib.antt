pub mod Numbered
pub mod Fitting
pub mod lemmas
