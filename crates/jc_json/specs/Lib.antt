pub mod Json
pub mod Parts
pub mod Gains
pub mod Values
