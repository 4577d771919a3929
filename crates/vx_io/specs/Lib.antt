pub mod Bytes
pub mod MemorySink
pub mod MemorySource
pub mod Standard
pub mod SteadySource
