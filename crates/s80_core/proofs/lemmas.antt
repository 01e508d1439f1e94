pub mod FitAll
pub mod CoverEnds
