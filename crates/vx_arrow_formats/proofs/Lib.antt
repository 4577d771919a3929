pub mod CommaFields
pub mod Digits
pub mod IdFields
