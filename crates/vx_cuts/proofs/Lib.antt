pub mod BitPlaces
pub mod BoundLists
pub mod Filled
pub mod OwnPicks
pub mod PieceLists
pub mod PutPicks
pub mod RunPieces
pub mod SlicePieces
