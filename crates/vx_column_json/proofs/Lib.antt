pub mod Extensions
pub mod Filters
pub mod Maps
pub mod Refusals
