pub mod ChunkRows
pub mod Parts
pub mod PickedCalls
pub mod PickIndices
pub mod Selecting
