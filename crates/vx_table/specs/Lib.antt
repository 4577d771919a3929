pub mod Page
pub mod Table
pub mod Taken
pub mod Messages
