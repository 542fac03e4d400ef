pub mod Looms
pub mod Weaving
pub mod Laws
