pub mod Chunks
pub mod IndexRecords
pub mod Laws
pub mod Select
pub use Rattle.vx_steps.specs.Shape
