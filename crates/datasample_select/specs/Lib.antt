pub mod Choose
pub mod SeenLaws
pub mod Slots
pub mod ChooseLaws
