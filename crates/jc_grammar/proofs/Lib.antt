pub mod LookAheadLemmas
pub mod FaultsDecideLemmas
pub mod FaultsLemmas
pub mod TreeReaderLemmas
mod LookAheadListsLemmas
pub mod ScenarioGrammarLemmas
mod ExamplesLemmas
pub mod LimitsLemmas
pub mod PrefixLemmas
