pub mod Core
pub mod Elaborate
pub mod Measures
pub mod Arms
pub mod Walk
