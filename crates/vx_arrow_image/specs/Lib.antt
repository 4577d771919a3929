pub mod Checking
pub mod Image
pub mod Messages
pub mod Rows
