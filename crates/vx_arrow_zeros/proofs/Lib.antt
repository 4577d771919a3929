pub mod Bytes
pub mod RowLemmas
pub mod Spread
pub mod WordBits
pub mod BitLemmas
