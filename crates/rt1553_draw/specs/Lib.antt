pub mod Anchor
pub mod inner
