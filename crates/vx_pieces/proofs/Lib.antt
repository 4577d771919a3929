pub mod IndexLists
pub mod Naturals
pub mod PieceLists
pub mod PieceNumbers
pub mod RunLists
pub mod RunPlaces
