pub mod Parity
pub mod MaskLaws
pub mod Masks
pub mod WordLaws
pub mod CellLaws
pub mod ModeLaws
pub mod Places
