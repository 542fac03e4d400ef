pub mod MadeLemmas
pub mod HandedLemmas
