pub mod PlayResultLemmas
pub mod JournalsLemmas
pub mod JournalResultLemmas
pub mod ReadsScenarioLemmas
pub mod ReplicaLinesLemmas
pub mod RunOutLemmas
pub mod ViewTextLemmas
pub mod GivenStuckLemmas
pub mod JournaledLemmas
pub mod LawsLemmas
pub mod SomeRunLemmas
pub mod SessionRunsLemmas
pub mod CommandsLemmas
pub mod ThreadRunsLemmas
pub mod FoundLemmas
pub mod WeaveRunsLemmas
mod PromiseLemmas
mod PromiseFactsLemmas
