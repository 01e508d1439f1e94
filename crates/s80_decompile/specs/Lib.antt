pub mod Places
pub mod Printed
pub mod Spellable
pub mod Spelled
pub mod TreeText
pub mod TreeTokens
