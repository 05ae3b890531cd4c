pub mod Fields
pub mod Parts
pub mod WordLines
pub mod WordTexts
pub mod Session
pub mod inner
