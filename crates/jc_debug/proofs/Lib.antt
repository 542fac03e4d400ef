pub mod InvariantLemmas
pub mod HaltLemmas
pub mod BreaksLemmas
pub mod RunLemmas
pub mod ActLemmas
pub mod LawsLemmas
pub mod RepliesLemmas
