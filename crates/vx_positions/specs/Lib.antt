pub mod Positions
pub mod Stored
