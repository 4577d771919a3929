pub mod Codes
pub mod Dense
pub mod Lists
pub mod Maps
pub mod Nulls
pub mod Strict
pub mod Texts
