pub mod AskedLemmas
pub mod InputLemmas
