pub mod Fits
pub mod AppliesAlong
pub mod Passing
