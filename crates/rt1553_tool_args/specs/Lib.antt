pub mod Commands
pub mod Dates
