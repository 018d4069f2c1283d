pub mod Store
pub mod Fit
pub mod Choosing
