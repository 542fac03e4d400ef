pub mod DebuggerState
pub mod Invariant
pub mod Stored
pub mod Moves
pub mod Laws
