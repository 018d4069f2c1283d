pub mod Plan
pub mod WindowLaws
pub mod PlaceLaws
pub mod KeyedLaws
pub mod Keeping
