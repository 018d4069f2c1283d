pub mod Places
pub mod WriterLaws
pub mod WordLaws
pub mod LookLaws
pub mod ResultLaws
pub mod PlaceOutcomes
