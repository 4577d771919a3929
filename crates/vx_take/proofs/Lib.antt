pub mod NeededBits
pub mod PackedBits
pub mod PickLists
pub mod RankedPicks
pub mod TakenLists
