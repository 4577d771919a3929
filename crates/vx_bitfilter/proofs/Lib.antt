pub mod ClosedBits
pub mod PackedBits
pub mod PackedHalves
pub mod PackedLaws
pub mod PickRanks
pub mod FilteredWords
pub mod SparseBits
pub mod PackedBytes
