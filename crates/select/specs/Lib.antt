pub mod Choice
pub mod ChoiceLaws
pub mod Ordered
pub mod OrderedLaws
pub mod Told
pub mod ToldLaws
