pub mod Blocks
pub mod Bytes
pub mod Copies
pub mod LongMoves
pub mod LowestRuns
pub mod Moves
pub mod Picks
pub mod WordItems
