pub mod Words
pub mod WordLaws
pub mod Memory
pub mod MemoryLaws
pub mod Keeping
