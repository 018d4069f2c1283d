pub mod Adding
pub mod Came
pub mod Others
pub mod OtherLaws
