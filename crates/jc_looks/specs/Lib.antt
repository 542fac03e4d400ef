pub mod LookFaults
pub mod Looks
