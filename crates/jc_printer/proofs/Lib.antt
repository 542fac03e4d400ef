pub mod EscapesLemmas
pub mod CanonEventsLemmas
pub mod PrefixLemmas
pub mod NumberBytesLemmas
pub mod NumeralsLemmas
pub mod PrintedSymbolsLemmas
mod PushedTextsLemmas
pub mod QuotedLemmas
pub mod CanonTreesLemmas
pub mod WrittenSymbolsLemmas
pub mod CanonSymbolsLemmas
pub mod WrittenTreesLemmas
pub mod WrittenEventsLemmas
