pub mod Damages
pub mod Images
pub mod Imaging
pub mod Noted
pub mod Snapped
pub mod Standing
