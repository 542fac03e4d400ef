pub mod Difference
pub mod EffectsJson
pub mod Laws
pub mod Parts
pub mod Places
