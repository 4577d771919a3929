pub mod Parts
pub mod Pushes
pub mod Shown
pub mod TextLists
