pub mod Cells
pub mod Listening
