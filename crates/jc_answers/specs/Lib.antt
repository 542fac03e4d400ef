pub mod JsonTexts
pub mod Parts
pub mod Refusals
