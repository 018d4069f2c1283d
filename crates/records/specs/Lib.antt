pub mod Format
pub mod Words
pub mod RequestLaws
pub mod PairLaws
