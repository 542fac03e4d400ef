pub mod OneLine
pub mod Laws
