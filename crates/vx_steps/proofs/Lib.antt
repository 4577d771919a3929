pub mod ComposedPicks
pub mod Cuts
pub mod Walks
pub mod StepTypes
pub mod Unbroken
