pub mod Phases
pub mod Chosen
pub mod Legal
pub mod Laws
