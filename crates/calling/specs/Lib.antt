pub mod Picked
pub mod Squares
