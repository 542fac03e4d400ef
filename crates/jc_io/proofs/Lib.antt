pub mod StreamsReadLemmas
pub mod StreamsWriteLemmas
pub mod WrittenLemmas
