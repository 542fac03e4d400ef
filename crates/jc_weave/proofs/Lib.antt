mod LoomsLemmas
mod LoomsOnceLemmas
pub mod WeavingLemmas
pub mod WeavingChosenLemmas
pub mod WeavingStuckLemmas
mod WeavingEndsLemmas
mod WeavingOverLemmas
