pub mod Session
pub mod Stands
pub mod RespondLaws
pub mod OneAnswer
