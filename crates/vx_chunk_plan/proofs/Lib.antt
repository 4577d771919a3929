pub mod Faultless
pub mod Filling
pub mod Firsts
pub mod KeyLists
pub mod RowPuts
pub mod Sorting
pub mod Walks
