pub mod Indices
pub mod Pieces
pub mod Runs
pub use Rattle.vx_take.specs.Picks
pub mod Messages
