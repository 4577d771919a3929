pub mod CutRows
pub mod DenseTests
pub mod OffsetReads
pub mod SoundNodes
pub mod Stacks
pub mod ViewTests
