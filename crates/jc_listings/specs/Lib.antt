pub mod Positions
pub mod Journals
pub mod JournalParts
pub mod Places
pub mod PlaceParts
pub mod WovenTexts
