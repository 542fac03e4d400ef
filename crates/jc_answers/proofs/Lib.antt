pub mod JsonTextsLemmas
pub mod PositionsLemmas
pub mod RefusedLemmas
