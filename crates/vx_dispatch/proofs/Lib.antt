pub mod Codes
pub mod RunTakes
pub mod ListSteps
pub mod Unflat
pub mod EachColumn
pub mod Unions
