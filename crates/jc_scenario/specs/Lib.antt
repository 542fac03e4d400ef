pub mod WellFormed
pub mod Resolved
pub mod Faults
pub mod Canon
pub mod Views
pub mod Laws
