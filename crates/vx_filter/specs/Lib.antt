pub mod Choice
pub mod Compact
pub mod Compress
pub mod Kept
pub mod Words
