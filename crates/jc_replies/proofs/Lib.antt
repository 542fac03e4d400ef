pub mod MovesLemmas
pub mod ShownLemmas
pub mod RepliesLemmas
pub mod HereLemmas
