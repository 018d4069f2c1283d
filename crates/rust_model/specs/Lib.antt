pub mod Maps
pub mod DataSampleCache
pub mod Ground
pub mod Equal
pub mod TopicCache
pub mod TopicEqual
pub mod Members
