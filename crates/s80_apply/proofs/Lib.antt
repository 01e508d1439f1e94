pub mod lemmas
pub mod Defined
pub mod Extents
pub mod Found
pub mod Seen
pub mod Looked
pub mod Passing
pub mod Refusing
pub mod GivenVars
pub mod Booted
pub mod Names
pub mod OfMethods
pub mod Lawful
pub mod Stands
pub mod Places
pub mod Standing
pub mod Codes
pub mod Sound
pub mod Preparing
pub mod Vars
pub mod Sources
pub mod Booting
pub mod Tied
pub mod Owning
pub mod Few
pub mod Again
pub mod Recompiled
mod KernelTold
mod KernelFronts
mod KernelScan
mod KernelMarks
mod KernelExprs
mod KernelMethods
mod KernelLawful
mod KernelSizes
mod KernelSources
pub mod LastingLists
pub mod LastingDefined
pub mod LastingKernel
pub mod LastingWithin
