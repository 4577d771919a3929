pub mod Flats
pub mod Taken
