pub mod Bytes
pub mod Dump
pub mod DumpParts
pub mod Lines
pub mod Rows
pub mod Texts
