pub mod Shift
pub mod Insert
pub mod Count
pub mod Every
pub mod Sort
pub mod Blocks
pub mod Regions
