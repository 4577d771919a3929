pub mod Messages
pub mod Rows
pub mod Selected
