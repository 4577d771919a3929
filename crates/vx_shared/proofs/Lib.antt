pub mod BlockSteps
pub mod CountedSteps
pub mod Opening
pub mod Saturating
pub mod Turns
pub mod UnboxedSteps
