pub mod Text
pub mod Fields
pub mod Records
pub mod Calls
pub mod Reads
