pub mod States
pub mod StateLaws
pub mod Formed
pub mod FormedLaws
pub mod Counts
pub mod Lifecycle
pub mod LifecycleLaws
pub mod Samples
