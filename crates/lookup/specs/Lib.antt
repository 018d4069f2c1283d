pub mod Lookup
pub mod LookupLaws
