pub mod Fault
pub mod Causes
pub mod Work
