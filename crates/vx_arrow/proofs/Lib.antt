pub mod KnownLists
pub mod Chunks
mod Copied
pub mod FirstLack
pub mod MeantSteps
pub mod Refusals
pub mod SoundColumns
pub mod Writes
