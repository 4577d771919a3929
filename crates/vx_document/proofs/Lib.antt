pub mod Inside
pub mod SeenSteps
