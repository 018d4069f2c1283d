pub mod Listed
pub mod SlotLaws
pub mod FewLaws
pub mod OneOutcome
