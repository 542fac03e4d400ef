pub mod NoLfLemmas
pub mod CompactLemmas
pub mod PrintedLemmas
pub mod AnswersLemmas
mod PlaceNumbersLemmas
pub mod LooksLemmas
pub mod StuckLinesLemmas
pub mod RepliesLemmas
pub mod EventLinesLemmas
pub mod ListingsLemmas
pub mod ServeLemmas
