pub mod Lists
pub mod LiteralLists
