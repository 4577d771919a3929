pub mod CellRows
pub mod Found
pub mod KeyPrefixes
pub mod Links
pub mod SortedRows
pub mod SmallRecords
pub mod Tied
pub mod FlatKeys
