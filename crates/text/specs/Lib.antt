pub mod Text
pub mod NumberLaws
pub mod PutLaws
