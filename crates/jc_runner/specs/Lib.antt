pub mod Recording
pub mod Asked
pub mod Benches
pub mod Answers
pub mod WorkerResult
pub mod Reports
