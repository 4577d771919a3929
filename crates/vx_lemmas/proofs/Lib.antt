pub mod Bits
pub mod Bools
pub mod Lists
pub mod Numbers
pub mod Options
pub mod Picked
pub mod Results
pub mod Tests
