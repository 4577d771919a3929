pub mod Masks
pub mod Filters
pub mod Takes
pub mod Bits
pub mod Positions
pub mod Runs
pub mod Widened
