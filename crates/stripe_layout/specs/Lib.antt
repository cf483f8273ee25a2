pub mod AreaLists
pub mod Laws
pub mod Layout
pub mod Modes
pub mod PieceNumbers
pub mod Pieces
