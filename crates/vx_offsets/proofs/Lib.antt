pub mod Ascending
pub mod Cuts
pub mod Naturals
pub mod ReadOffsets
