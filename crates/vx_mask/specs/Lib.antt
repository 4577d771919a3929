pub mod Mask
pub mod MaskValues
pub mod Policy
pub mod Positions
pub mod Ranks
pub mod Reuse
pub mod Messages
