pub mod Answer
pub mod Formats
pub mod Causes
pub mod Interleaved
pub mod Selected
pub mod Steps
pub mod Strict
