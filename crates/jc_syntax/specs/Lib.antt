pub mod Bytes
pub mod Faults
pub mod Lexemes
pub mod NumberReading
pub mod Numbers
pub mod Strings
pub mod Trees
