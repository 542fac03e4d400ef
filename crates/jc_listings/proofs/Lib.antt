pub mod PlacesTreesLemmas
pub mod PlacesLemmas
pub mod WovenTextsLemmas
pub mod JournalPartsLemmas
