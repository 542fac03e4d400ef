pub mod LegalGrowsLemmas
pub mod ChosenLemmas
mod ChosenStoredLemmas
pub mod ChosenNowLemmas
pub mod ChosenNamesLemmas
pub mod LegalLemmas
