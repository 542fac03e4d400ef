pub mod Asked
pub mod Views
pub mod Input
pub mod InputViews
