pub mod ProgramCommandsLemmas
mod LimitsLemmas
mod LiteralsLemmas
mod HelpLemmas
mod ArgumentsLemmas
mod FaultlessLemmas
mod LawsLemmas
