pub mod Blocks
pub mod Errors
pub mod Shape
pub mod Touched
pub mod File
pub mod Reading
pub mod Stated
pub mod Messages
