pub mod Ran
pub mod Taken
pub mod WordParts
