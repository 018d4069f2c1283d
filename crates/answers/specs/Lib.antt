pub mod Sizes
pub mod Says
pub mod SoFar
pub mod BackLaws
pub mod PrintLaws
