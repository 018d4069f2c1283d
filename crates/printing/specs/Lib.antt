pub mod Printout
pub mod Lines
pub mod LineLaws
pub mod AnswerLaws
