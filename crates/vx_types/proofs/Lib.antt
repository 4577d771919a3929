pub mod Alike
pub mod Carried
pub mod Entries
pub mod Ids
pub mod Places
