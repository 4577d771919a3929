pub mod RowLists
pub mod Stretches
pub mod TruthBits
