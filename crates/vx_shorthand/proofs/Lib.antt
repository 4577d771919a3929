pub mod Ascii
pub mod Bools
pub mod Names
pub mod Ramps
pub mod Rows
