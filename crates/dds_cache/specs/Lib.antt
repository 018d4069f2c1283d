pub mod Header
pub mod LimitLaws
pub mod CallLaws
pub mod Outcomes
