pub mod Masks
pub mod MaskLaws
