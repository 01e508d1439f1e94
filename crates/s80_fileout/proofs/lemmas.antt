pub mod MomentBytes
