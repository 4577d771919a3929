pub mod Ascends
pub mod Counts
pub mod Handed
pub mod PickedOnce
pub mod Marks
pub mod Spans
pub mod ValuesAt
pub mod WordPlaces
