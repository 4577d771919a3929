pub mod BitBuffer
pub mod BitBuilder
pub mod Results
pub mod Records
pub mod WordReader
pub mod Words
pub mod Messages
