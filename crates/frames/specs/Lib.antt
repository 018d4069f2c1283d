pub mod Pieces
pub mod PieceLaws
