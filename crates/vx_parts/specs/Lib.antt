pub mod Arrivals
pub mod Cuts
pub mod Messages
pub mod Own
pub mod Plan
pub mod Putting
pub use Rattle.vx_cuts.specs.Bounds
pub use Rattle.vx_cuts.specs.Runs
