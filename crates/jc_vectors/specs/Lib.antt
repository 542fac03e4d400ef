pub mod KnownIds
pub mod OperationIds
pub mod StoredStates
pub mod Laws
pub mod StateLaws
