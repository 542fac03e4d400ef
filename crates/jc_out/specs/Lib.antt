pub mod Out
pub mod Pieces
pub mod Laws
