pub mod Change
pub mod ChangeLaws
pub mod Keeping
