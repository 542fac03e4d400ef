pub mod WorkerResultLemmas
pub mod ReportsLemmas
mod ElementsKnownLemmas
mod CrossesLemmas
mod AskedLemmas
