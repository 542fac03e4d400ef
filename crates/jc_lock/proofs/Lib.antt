pub mod GatheredLemmas
pub mod DealLemmas
pub mod StepsLemmas
pub mod MarksLemmas
pub mod NumbersLemmas
pub mod RulesSumsLemmas
