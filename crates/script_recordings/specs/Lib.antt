pub mod Parts
pub mod Seen
pub mod Messages
pub mod Explained
pub mod inner
