pub mod Condensed
pub mod Order
pub mod Moment
pub mod FileText
pub mod Items
pub mod Lawful
