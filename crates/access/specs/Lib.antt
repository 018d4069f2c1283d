pub mod Access
pub mod AccessLaws
