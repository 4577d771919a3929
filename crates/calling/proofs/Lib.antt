pub mod FirstRows
pub mod NameTables
pub mod SquareLists
