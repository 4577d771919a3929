pub mod Asked
pub mod Positions
pub use Rattle.vx_decoder.specs.Laws
pub use Rattle.vx_decoder.specs.Told
