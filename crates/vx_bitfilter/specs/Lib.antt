pub mod Pext
pub mod Table
pub mod Words
