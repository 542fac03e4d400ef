pub mod Gathered
pub mod Knowledge
pub mod Lending
pub mod Numbers
pub mod Rules
pub mod Shows
pub mod Steps
