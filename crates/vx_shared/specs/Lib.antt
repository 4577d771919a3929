pub mod Counted
pub mod Saturating
pub mod formers
