pub mod Flat
pub mod Stored
