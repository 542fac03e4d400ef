pub mod OutLemmas
mod PiecesLemmas
