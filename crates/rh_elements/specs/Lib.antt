pub mod Boxes
pub mod DrawArrows
pub mod DrawCards
pub mod DrawPieces
pub mod DrawRows
pub mod Inner
pub mod Tints
