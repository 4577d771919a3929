pub mod Lists
pub mod Places
pub mod Rows
pub mod Sources
pub mod Structs
pub mod Tags
pub mod Texts
pub mod Unions
