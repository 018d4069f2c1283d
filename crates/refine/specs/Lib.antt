pub mod Layout
pub mod Good
pub mod Tables
pub mod Entries
pub mod Counting
pub mod Accepted
pub mod Answers
pub mod Lists
