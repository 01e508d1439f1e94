pub mod NamedMaps
pub mod SameViews
pub mod ResumedState
