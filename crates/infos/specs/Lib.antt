pub mod Infos
pub mod InfoLaws
pub mod Words
pub mod RankLaws
pub mod PutLaws
pub mod GetLaws
pub mod BackLaws
pub mod FlatLaws
