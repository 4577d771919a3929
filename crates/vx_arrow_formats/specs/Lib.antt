pub mod Ends
pub mod Ids
pub mod Layouts
pub mod Numbers
pub mod Parameters
pub mod Shapes
pub mod Words
