pub mod Status
pub mod Loaded
