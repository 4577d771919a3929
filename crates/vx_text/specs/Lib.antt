pub mod Building
pub mod LastOffset
pub mod Left
pub mod OffsetList
pub mod Views
