pub mod Operation
pub mod EventLine
pub mod StuckLine
pub mod Parts
