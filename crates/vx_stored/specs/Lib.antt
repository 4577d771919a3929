pub mod Boolean
pub mod Left
pub mod Records
pub mod Scalars
pub mod Texts
