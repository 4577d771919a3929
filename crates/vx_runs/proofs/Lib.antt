mod Bytes
pub mod RunPlaces
