pub mod Adaptors
pub mod Answers
pub use Rattle.vx_dispatch.specs.Materialized
pub use Rattle.vx_dispatch.specs.Union
pub mod Pack
pub mod Sorted
pub mod Taking
pub mod Messages
