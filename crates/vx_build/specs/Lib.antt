pub mod Faults
pub mod Fields
pub mod Half
pub mod Positions
pub mod Rows
