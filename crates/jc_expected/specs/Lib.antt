pub mod Appended
pub mod Expected
