pub mod Lists
pub mod Sums
pub mod Filters
pub mod Takes
pub mod Fixed
pub mod Numbers
pub mod Plans
