pub mod TokensLemmas
pub mod OperationLemmas
pub mod LastStepPartsLemmas
pub mod EventLineLemmas
pub mod StuckLineLemmas
pub mod EventEffectsLemmas
