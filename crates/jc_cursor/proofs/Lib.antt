pub mod BoundsLemmas
pub mod TraceGrowsLemmas
pub mod WayDownLemmas
pub mod AlongSpansLemmas
pub mod ElementsLemmas
pub mod MapNamesLemmas
pub mod SelectLemmas
pub mod EvaluatesLemmas
