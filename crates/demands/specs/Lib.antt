pub mod Meets
pub mod Calls
pub mod Runs
pub mod OneOutcome
