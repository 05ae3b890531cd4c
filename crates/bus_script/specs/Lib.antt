pub mod Fault
pub mod Reading
pub mod Played
pub mod inner
