pub mod Flat
pub mod Repeat
pub mod Insertion
pub mod FlatLaws
pub mod RepeatLaws
pub mod InsertionLaws
pub mod OrderLaws
pub mod BadLaws
